-- What a change of the rows from a place on does to the sizes of the rows before it.
use Rattle.std.proofs.Common.{◌≡◌, ℕ, suc, ◌+◌, ◌-◌, ◌<◌, ◌≤◌, true, false, List, [], ◌∷◌, ◌++◌, length, nat_lt, cond, reverse, subst, append_assoc, inl, inr, refl, sym, ap, ◌∙◌, arith}
use Rattle.std.proofs.lemmas.Bool.Decides.{nat_tests}
use Rattle.std.proofs.lemmas.Bool.{cases_lt}
use Rattle.std.proofs.lemmas.List.{reverse-append}
use Rattle.xf_tree_rows.specs.declared.rows.Row.{Row}
use Rattle.xf_tree_rows.specs.Rows.{deeper, Sized, SizedBefore, grown, shrunk}
pub use Rattle.xf_tree_rows.specs.Rows.{AllDeep}

-- the second has so many rows more below a row that is less deep than this, and else as many as the first
pub record Longer (by depth : ℕ) (first second : List Row) : Type 0 where
  pub is_open : (e : ℕ) → e < depth → deeper e second ≡ deeper e first + by
  pub shut : (e : ℕ) → depth ≤ e → deeper e second ≡ deeper e first

-- one row more in front of both, of which the second may have another size
deeper-front : (e : ℕ) (y z : Row) (first second : List Row) (by : ℕ) → z.depth ≡ y.depth
    → deeper e second ≡ deeper e first + by → e < y.depth → deeper e (z ∷ second) ≡ deeper e (y ∷ first) + by
deeper-front e y z first second by same h l = grind (arith, nat_tests)

deeper-shut : (e : ℕ) (y : Row) (xs : List Row) → y.depth ≤ e → deeper e (y ∷ xs) ≡ 0
deeper-shut e y xs h = grind (arith, nat_tests)

deeper-same : (e : ℕ) (y z : Row) (first second : List Row) → z.depth ≡ y.depth
    → deeper e second ≡ deeper e first → deeper e (z ∷ second) ≡ deeper e (y ∷ first)
deeper-same e y z first second same h = grind (arith, nat_tests)

pub longer-open : (by depth : ℕ) (y z : Row) (first second : List Row) → z.depth ≡ y.depth → y.depth < depth
    → Longer by depth first second → Longer by y.depth (y ∷ first) (z ∷ second)
longer-open by depth y z first second same h longer = record {
  is_open = λ e l. deeper-front e y z first second by same (longer.is_open e (omega arith)) l;
  shut = λ e l. let l2 : z.depth ≤ e = omega arith in deeper-shut e z second l2 ∙ sym (deeper-shut e y first l);
}

pub longer-shut : (by depth : ℕ) (y : Row) (first second : List Row) → depth ≤ y.depth
    → Longer by depth first second → Longer by depth (y ∷ first) (y ∷ second)
longer-shut by depth y first second h longer = record {
  is_open = λ e l. deeper-front e y y first second by refl (longer.is_open e l) (omega arith);
  shut = λ e l. deeper-same e y y first second refl (longer.shut e l);
}

pub lt-true : (m n : ℕ) → m < n → nat_lt m n ≡ true
lt-true m n h = grind (arith, nat_tests)

pub lt-false : (m n : ℕ) → n ≤ m → nat_lt m n ≡ false
lt-false m n h = grind (arith, nat_tests)

abbrev resized : Row → ℕ → Row
resized y size = record { key = y.key; size = size; depth = y.depth }

pub grown-sized : (by depth : ℕ) (ys first second : List Row) → Longer by depth first second → SizedBefore ys first → Sized second
    → Sized (grown by depth ys second)
grown-sized by depth [] first second longer before after = after
grown-sized by depth (y ∷ ys) first second longer before after =
    elim (cases_lt y.depth depth) [
      | inl h ↦
          rw (lt-true y.depth depth h)
          (grown-sized by y.depth ys (y ∷ first) (resized y (y.size + by) ∷ second)
          (longer-open by depth y (resized y (y.size + by)) first second refl h longer) before.1
          (let e : y.size + by ≡ deeper y.depth second + 1 = omega (arith, longer.is_open y.depth h, before.0) in (e, after)))
      | inr h ↦
          rw (lt-false y.depth depth h)
          (grown-sized by depth ys (y ∷ first) (y ∷ second) (longer-shut by depth y first second h longer) before.1
          (let e : y.size ≡ deeper y.depth second + 1 = omega (arith, longer.shut y.depth h, before.0) in (e, after)))
    ]

pub shrunk-sized : (by depth : ℕ) (ys first second : List Row) → Longer by depth second first → SizedBefore ys first → Sized second
    → Sized (shrunk by depth ys second)
shrunk-sized by depth [] first second longer before after = after
shrunk-sized by depth (y ∷ ys) first second longer before after =
    elim (cases_lt y.depth depth) [
      | inl h ↦
          rw (lt-true y.depth depth h)
          (shrunk-sized by y.depth ys (y ∷ first) (resized y (y.size - by) ∷ second)
          (longer-open by depth (resized y (y.size - by)) y second first refl h longer) before.1
          (let e : y.size - by ≡ deeper y.depth second + 1 = omega (arith, longer.is_open y.depth h, before.0) in (e, after)))
      | inr h ↦
          rw (lt-false y.depth depth h)
          (shrunk-sized by depth ys (y ∷ first) (y ∷ second) (longer-shut by depth y second first h longer) before.1
          (let e : y.size ≡ deeper y.depth second + 1 = omega (arith, longer.shut y.depth h, before.0) in (e, after)))
    ]

-- what stands after a list that is not deeper than a row adds nothing to what is below that row
pub deeper-append : (e : ℕ) (xs ys : List Row) → deeper e ys ≡ 0 → deeper e (xs ++ ys) ≡ deeper e xs
deeper-append e [] ys h = h
deeper-append e (x ∷ xs) ys h = ap (λ n. cond (nat_lt e x.depth) (suc n) 0) (deeper-append e xs ys h)

pub deeper-less : (d e : ℕ) (ys : List Row) → d ≤ e → deeper d ys ≡ 0 → deeper e ys ≡ 0
deeper-less d e [] h z = refl
deeper-less d e (y ∷ ys) h z = grind (arith, nat_tests)

deeper-all : (e d : ℕ) (xs ys : List Row) → e < d → AllDeep d xs → deeper e (xs ++ ys) ≡ deeper e ys + length xs
deeper-all e d [] ys h all = omega arith
deeper-all e d (x ∷ xs) ys h all =
    let l : e < x.depth = omega (arith, all.0) in
    let i : deeper e (xs ++ ys) ≡ deeper e ys + length xs = deeper-all e d xs ys h all.1 in
    rw (lt-true e x.depth l) (omega (arith, i))

-- a tree whose top is that deep, before rows of which the first is not deeper
pub longer-tree : (top : Row) (rest ys : List Row) → AllDeep top.depth rest → deeper top.depth ys ≡ 0
    → Longer (length rest + 1) top.depth ys ((top ∷ rest) ++ ys)
longer-tree top rest ys all stops = record {
  is_open = λ e l.
      let i : deeper e (rest ++ ys) ≡ deeper e ys + length rest = deeper-all e top.depth rest ys l all in
      rw (lt-true e top.depth l) (omega (arith, i));
  shut = λ e l. rw (lt-false e top.depth l) (sym (deeper-less top.depth e ys l stops));
}

pub sized-append : (d : ℕ) (xs ys : List Row) → AllDeep d xs → deeper d ys ≡ 0 → Sized xs → Sized ys → Sized (xs ++ ys)
sized-append d [] ys all stops first second = second
sized-append d (x ∷ xs) ys all stops first second = (
  first.0 ∙ ap (λ n. n + 1) (sym (deeper-append x.depth xs ys (deeper-less d x.depth ys all.0 stops))),
  sized-append d xs ys all.1 stops first.1 second,
)

pub sized-front : (d : ℕ) (xs ys : List Row) → AllDeep d xs → deeper d ys ≡ 0 → Sized (xs ++ ys) → Sized xs × Sized ys
sized-front d [] ys all stops sized = (tt, sized)
sized-front d (x ∷ xs) ys all stops sized =
    let later = sized-front d xs ys all.1 stops sized.1 in
    ((sized.0 ∙ ap (λ n. n + 1) (deeper-append x.depth xs ys (deeper-less d x.depth ys all.0 stops)), later.0), later.1)

pub sized-before : (ys tail : List Row) → Sized (reverse ys ++ tail) → SizedBefore ys tail × Sized tail
sized-before [] tail sized = (tt, sized)
sized-before (y ∷ ys) tail sized =
    let h : Sized (reverse ys ++ (y ∷ tail)) = subst Sized (ap (λ l. l ++ tail) (reverse-append (y ∷ []) ys) ∙ append_assoc (reverse ys) (y ∷ []) tail) sized in
    let i = sized-before ys (y ∷ tail) h in
    ((i.1.0, i.0), i.1.1)
