-- The tops of trees: detached trees stand after the roots, and can be put last.
use Rattle.std.proofs.Common.{◌≡◌, ℕ, suc, ◌+◌, ◌==◌, Bool, true, false, cond, ◌&&◌, ◌||◌, List, [], ◌∷◌, refl, sym, ap, ◌∙◌, subst, inl, inr, arith}
use Rattle.std.specs.Prelude.{⊤, ◌≤◌, is_some, find}
use Rattle.std.specs.List.{list_any}
use Rattle.std.proofs.lemmas.Bool.{cases_Bool}
use Rattle.std.proofs.lemmas.Bool.Decides.{nat_tests}
use Rattle.xf_def_forest.specs.declared.content.Node.{Node}
use Rattle.xf_def_forest.specs.declared.content.Content.{Content}
use Rattle.xf_def_forest.specs.Forest.{is_root}
use Rattle.xf_def_forest.specs.Visit.{Visit, visits, above_in, first_of, parent_of}
use Rattle.xf_def_forest.specs.Needs.{is_top}
use Rattle.xf_def_forest.proofs.BackLaws.{or-false, false-true}
use Rattle.xf_law_forests.proofs.RollbackLemmas.Trees.{Trees, none, tree, onto, followed, times}
use Rattle.xf_law_forests.proofs.RollbackLemmas.TreeTexts.{times-split}
use Rattle.xf_law_forests.proofs.RollbackLemmas.TreeVisits.{seen, visits-seen}
use Rattle.xf_law_forests.proofs.RollbackLemmas.TreeMoved.{Moved, same, swap, under, through}
use Rattle.xf_law_forests.proofs.RollbackLemmas.TreeBlank.{blank}
use Rattle.xf_law_forests.proofs.RollbackLemmas.TreeFacts.{is_at}
use Rattle.xf_law_forests.proofs.RollbackLemmas.TreeMoves.{removed, found, removed-absent, found-absent}
use Rattle.xf_law_forests.proofs.RollbackLemmas.TreePlaces.{changed}
use Rattle.xf_law_forests.proofs.RollbackLemmas.Alike.{Fresh}

-- the node is a top
abbrev pub tops : ℕ → Trees → Bool
tops n none = false
tops n (tree m c k r) = (m == n) || tops n r

or-turned : (a b c : Bool) → (a || (b || c)) ≡ (b || (a || c))
or-turned true true c = refl
or-turned true false c = refl
or-turned false b c = refl

pub moved-tops : (n : ℕ) {a b : Trees} → Moved a b → tops n a ≡ tops n b
moved-tops n (same t) = refl
moved-tops n (swap {n = x} {m = y} {r = r} e f) = or-turned (x == n) (y == n) (tops n r)
moved-tops n (under m c k h) = ap (λ b. (m == n) || b) (moved-tops n h)
moved-tops n (through g h) = moved-tops n g ∙ moved-tops n h

pub blank-tops : (n : ℕ) (ns : List ℕ) (t : Trees) → tops n (blank ns t) ≡ tops n t
blank-tops n ns none = refl
blank-tops n ns (tree m c k r) = ap (λ b. (m == n) || b) (blank-tops n ns r)

pub changed-tops : (n p : ℕ) (f : Trees → Trees) (t : Trees) → tops n (changed p f t) ≡ tops n t
changed-tops n p f none = refl
changed-tops n p f (tree m c k r) = ap (λ b. (m == n) || b) (changed-tops n p f r)

pub absent-tops : (n : ℕ) (t : Trees) → times n t ≡ 0 → tops n t ≡ false
absent-tops n none h = refl
absent-tops n (tree m c k r) h = let parts = times-split n m c k r h in rw (parts.0, absent-tops n r parts.2) refl

pub tops-followed : (n : ℕ) (t s : Trees) → tops n (followed t s) ≡ (tops n t || tops n s)
tops-followed n none s = refl
tops-followed n (tree m c k r) s = ap (λ b. (m == n) || b) (tops-followed n r s) ∙ assoc (m == n) (tops n r) (tops n s)
  where
    assoc : (a b c : Bool) → (a || (b || c)) ≡ ((a || b) || c)
    assoc true b c = refl
    assoc false b c = refl

-- ---- in the list

tops-deep : (n d : ℕ) (t : Trees) (ys : List Node) → list_any (λ (x : Node). (x.number == n) && (x.depth == 0)) (onto (suc d) t ys) ≡ list_any (λ (x : Node). (x.number == n) && (x.depth == 0)) ys
tops-deep n d none ys = refl
tops-deep n d (tree m c k r) ys =
    let deep : (suc d == 0) ≡ false = grind (arith, nat_tests) in
    rw (deep, and-false (m == n)) (tops-deep n (suc d) k (onto (suc d) r ys) ∙ tops-deep n d r ys)
  where
    and-false : (b : Bool) → (b && false) ≡ false
    and-false true = refl
    and-false false = refl

pub tops-onto : (n : ℕ) (t : Trees) → is_top n (onto 0 t []) ≡ tops n t
tops-onto n none = refl
tops-onto n (tree m c k r) =
    ap (λ b. ((m == n) && true) || b) (tops-deep n 0 k (onto 0 r []) ∙ tops-onto n r) ∙ ap (λ b. b || tops n r) (and-true_ (m == n))
  where
    and-true_ : (b : Bool) → (b && true) ≡ b
    and-true_ true = refl
    and-true_ false = refl

-- ---- a detached tree is put last

abbrev pub NoRoots : Trees → Type 0
NoRoots none = ⊤
NoRoots (tree n c k r) = (is_root c ≡ false) × NoRoots r

-- the node is a top that is no root, and none comes after it
abbrev pub TopAt : ℕ → Trees → Type 0
TopAt n none = ⊥
TopAt n (tree m c k r) = cond (m == n) ((is_root c ≡ false) × NoRoots r) (TopAt n r)

-- the roots stand before the other trees
abbrev pub RootsFirst : Trees → Type 0
RootsFirst none = ⊤
RootsFirst (tree n c k r) = cond (is_root c) (RootsFirst r) (NoRoots r)

pub none-first : (t : Trees) → NoRoots t → RootsFirst t
none-first none h = tt
none-first (tree n c k r) h = rw h.0 h.1

pub rest-first : (b : Bool) (t : Trees) → cond b (RootsFirst t) (NoRoots t) → RootsFirst t
rest-first true t h = h
rest-first false t h = none-first t h

pub at-first : (n m : ℕ) (c : Content) (k r : Trees) → (m == n) ≡ true → is_at is_root n (tree m c k r) ≡ false → is_root c ≡ false
at-first n m c k r e h = (or-false (is_root c) (is_at is_root n k || is_at is_root n r) (rw e at h)).0

pub top-at : (n : ℕ) (t : Trees) → RootsFirst t → tops n t ≡ true → is_at is_root n t ≡ false → TopAt n t
top-at n none h top other = false-true top
top-at n (tree m c k r) h top other =
    elim (cases_Bool (m == n)) [
      | inl e ↦ let plain = at-first n m c k r e other in rw e (plain, (rw plain at h))
      | inr e ↦ rw e (top-at n r (rest-first (is_root c) r h) (rw e at top) (or-false (is_at is_root n k) (is_at is_root n r) (rw e at other)).1)
    ]

pub fresh-no_roots : (number : ℕ) (t : Trees) → Fresh number t → NoRoots t
fresh-no_roots number none h = tt
fresh-no_roots number (tree n c k r) h = (h.1, fresh-no_roots number r h.3)

pub no-roots-followed : (t s : Trees) → NoRoots t → NoRoots s → NoRoots (followed t s)
no-roots-followed none s h k = k
no-roots-followed (tree n c j r) s h k = (h.0, no-roots-followed r s h.1 k)

pub top-followed : (n : ℕ) (t s : Trees) → TopAt n t → NoRoots s → TopAt n (followed t s)
top-followed n none s h k = absurd h
top-followed n (tree m c j r) s h k =
    elim (cases_Bool (m == n)) [
      | inl e ↦ rw e (here (rw e at h))
      | inr e ↦ rw e (top-followed n r s (rw e at h) k)
    ]
  where
    here : (is_root c ≡ false) × NoRoots r → (is_root c ≡ false) × NoRoots (followed r s)
    here g = (g.0, no-roots-followed r s g.1 k)

to-last : (n : ℕ) (c : Content) (k r : Trees) → is_root c ≡ false → NoRoots r → Moved (tree n c k r) (followed r (tree n c k none))
to-last n c k none e h = same (tree n c k none)
to-last n c k (tree m d j r) e h = through (swap e h.0) (under m d j (to-last n c k r e h.1))

top-times : (n : ℕ) (t : Trees) → TopAt n t → 1 ≤ times n t
top-times n none h = absurd h
top-times n (tree m c k r) h =
    elim (cases_Bool (m == n)) [
      | inl e ↦ rw e (omega arith)
      | inr e ↦ let z : 1 ≤ times n r = top-times n r (rw e at h) in rw e (omega (arith, z))
    ]

pub top-last : (n : ℕ) (t : Trees) → TopAt n t → times n t ≤ 1 → Moved t (followed (removed n t) (found n t))
top-last n none h once = absurd h
top-last n (tree m c k r) h once =
    elim (cases_Bool (m == n)) [
      | inl e ↦
          let in_r : times n r ≡ 0 = omega (arith, (rw e at once)) in
          here e in_r (rw e at h)
      | inr e ↦
          let z : 1 ≤ times n r = top-times n r (rw e at h) in
          let in_k : times n k ≡ 0 = omega (arith, z, (rw e at once)) in
          there e in_k (top-last n r (rw e at h) (omega (arith, (rw e at once))))
    ]
  where
    here : (m == n) ≡ true → times n r ≡ 0 → (is_root c ≡ false) × NoRoots r → Moved (tree m c k r) (followed (removed n (tree m c k r)) (found n (tree m c k r)))
    here e in_r g =
        rw e (subst (λ x. Moved (tree m c k r) (followed x (tree m c k (found n r)))) (sym (removed-absent n r in_r))
        (subst (λ x. Moved (tree m c k r) (followed r (tree m c k x))) (sym (found-absent n r in_r)) (to-last m c k r g.0 g.1)))

    there : (m == n) ≡ false → times n k ≡ 0 → Moved r (followed (removed n r) (found n r)) → Moved (tree m c k r) (followed (removed n (tree m c k r)) (found n (tree m c k r)))
    there e in_k h =
        rw e (subst (λ x. Moved (tree m c k r) (tree m c x (followed (removed n r) (followed (found n k) (found n r))))) (sym (removed-absent n k in_k))
        (subst (λ x. Moved (tree m c k r) (tree m c k (followed (removed n r) (followed x (found n r))))) (sym (found-absent n k in_k)) (under m c k h)))

-- ---- a node that is no top has a parent

find-absent : (n : ℕ) (up : List ℕ) (t : Trees) (vs : List Visit) → times n t ≡ 0 → find (λ (x : Visit). x.number == n) (seen up t vs) ≡ find (λ (x : Visit). x.number == n) vs
find-absent n up none vs h = refl
find-absent n up (tree m c k r) vs h =
    let parts = times-split n m c k r h in
    rw parts.0 (find-absent n (m ∷ up) k (seen up r vs) parts.1 ∙ find-absent n up r vs parts.2)

abbrev Hangs : ℕ → List Visit → Type 0
Hangs n vs = is_some (first_of (above_in (find (λ (x : Visit). x.number == n) vs))) ≡ true

found-below : (n a : ℕ) (up : List ℕ) (t : Trees) (vs : List Visit) → 1 ≤ times n t → Hangs n (seen (a ∷ up) t vs)
found-below n a up none vs h = absurd (omega (arith, h))
found-below n a up (tree m c k r) vs h =
    elim (cases_Bool (m == n)) [
      | inl e ↦ rw e refl
      | inr e ↦ rw e (
          elim (cases_Bool (times n k == 0)) [
            | inl z ↦
                let none_ : times n k ≡ 0 = grind (arith, nat_tests, z) in
                subst (λ o. is_some (first_of (above_in o)) ≡ true) (sym (find-absent n (m ∷ a ∷ up) k (seen (a ∷ up) r vs) none_)) (found-below n a up r vs (let g : 1 ≤ 0 + (times n k + times n r) = rw e at h in omega (arith, g, none_)))
            | inr z ↦ found-below n m (a ∷ up) k (seen (a ∷ up) r vs) (grind (arith, nat_tests, z))
          ]
          )
    ]

pub hangs : (n : ℕ) (t : Trees) → tops n t ≡ false → 1 ≤ times n t → Hangs n (seen [] t [])
hangs n none top h = absurd (omega (arith, h))
hangs n (tree m c k r) top h =
    let parts = or-false (m == n) (tops n r) top in
    let some_ : 1 ≤ 0 + (times n k + times n r) = rw parts.0 at h in
    rw parts.0 (
    elim (cases_Bool (times n k == 0)) [
      | inl z ↦
          let none_ : times n k ≡ 0 = grind (arith, nat_tests, z) in
          subst (λ o. is_some (first_of (above_in o)) ≡ true) (sym (find-absent n (m ∷ []) k (seen [] r []) none_)) (hangs n r parts.1 (omega (arith, some_, none_)))
      | inr z ↦ found-below n m [] k (seen [] r []) (grind (arith, nat_tests, z))
    ]
    )

pub has-parent : (n : ℕ) (t : Trees) → tops n t ≡ false → 1 ≤ times n t → is_some (parent_of n (visits (onto 0 t []))) ≡ true
has-parent n t top h = subst (Hangs n) (sym (visits-seen t)) (hangs n t top h)
