-- Pairs in the order of the bytes of their names.
use Rattle.std.proofs.Common.{◌≡◌, ℕ, ◌+◌, ◌-◌, ◌<◌, ◌≤◌, ◌||◌, if◌then◌else◌, not, Bool, true, false, List, [], ◌∷◌, ◌++◌, length, take, drop, reverse, get_or, codes, Bor, Ordering, Less, Equal, Greater, refl, sym, ap, ◌∙◌, subst, inl, inr, arith}
use Rattle.std.specs.List.{list_any}
use Rattle.std.specs.Str.{bytes_eq}
use Rattle.std.specs.Cmp.Lexicographic.{slice_cmp}
use Rattle.std.specs.Ordering.{nat_cmp, is_lt}
use Rattle.std.proofs.lemmas.Bool.{cases_Bool, true≢false, false≢true}
use Rattle.std.proofs.lemmas.Slice.Eq.{bytes_eq-Decides}
use Rattle.std.proofs.lemmas.Cmp.{nat_list_cmp_total, tied_itself, nat_list_eq_equiv}
use Rattle.std.proofs.lemmas.List.{take-append-drop, reverse-append, take_more}
use Rattle.std.proofs.lemmas.List.Folds.{list_any-append}
use Rattle.indexmap.specs.IndexSet.{insert_key}
use Rattle.xf_name.specs.declared.lit.Pair.{Pair}
use Rattle.xf_name.specs.Bindings.{Bindings, xml_prefix}
use Rattle.xf_def_forest.specs.Plant.{is_less}
use Rattle.xf_def_forest.specs.Printed.{pair, space_text, with_pair, with_pairs, with_prefix}
use Rattle.xf_tree_literals.specs.Print.{IsFound, AreDeclared}

-- ---- the order of names

lt-is : (o : Ordering) → is_lt o ≡ true → o ≡ Less
lt-is Less e = refl
lt-is Equal e = cc
lt-is Greater e = cc

less-is : (xs ys : List ℕ) → is_less xs ys ≡ true → slice_cmp nat_cmp xs ys ≡ Less
less-is xs ys e = lt-is (slice_cmp nat_cmp xs ys) e

less-trans : (xs ys zs : List ℕ) → is_less xs ys ≡ true → is_less ys zs ≡ true → is_less xs zs ≡ true
less-trans xs ys zs e f = ap is_lt (nat_list_cmp_total.trans xs ys zs (less-is xs ys e) (less-is ys zs f))

less-itself : (xs : List ℕ) → is_less xs xs ≡ false
less-itself xs = ap is_lt (tied_itself nat_list_cmp_total xs)

less-back : (xs ys : List ℕ) → is_less xs ys ≡ true → is_less ys xs ≡ false
less-back xs ys e = elim (cases_Bool (is_less ys xs)) [
  | inl f ↦ absurd (true≢false (sym (less-trans xs ys xs e f) ∙ less-itself xs))
  | inr f ↦ f
]

-- what is not before a second one that comes after a third is not before the third
less-past : (xs ys zs : List ℕ) → is_less xs ys ≡ false → is_less zs ys ≡ true → is_less xs zs ≡ false
less-past xs ys zs e f = elim (cases_Bool (is_less xs zs)) [
  | inl g ↦ absurd (true≢false (sym (less-trans xs zs ys g f) ∙ e))
  | inr g ↦ g
]

same-bytes : (xs ys : List ℕ) → bytes_eq xs ys ≡ true → xs ≡ ys
same-bytes xs ys e = grind (arith, bytes_eq-Decides)

pub not-false : (b : Bool) → not b ≡ false → b ≡ true
not-false true e = refl
not-false false e = cc

-- ---- names that are there

pub found-stays : (name text : List ℕ) (qs : List Pair) → IsFound name qs → with_pair (pair name text) qs ≡ qs
found-stays name text [] f = absurd f
found-stays name text (q ∷ qs) (inl e) = rw e refl
found-stays name text (q ∷ qs) (inr h) = elim (cases_Bool (bytes_eq name q.name)) [
  | inl e ↦ rw e refl
  | inr e ↦ rw (e, h.0) (ap (λ l. q ∷ l) (found-stays name text qs h.1))
]

found-new : (name text : List ℕ) (qs : List Pair) → IsFound name (with_pair (pair name text) qs)
found-new name text [] = inl (nat_list_eq_equiv.refl name)
found-new name text (q ∷ qs) = elim (cases_Bool (bytes_eq name q.name)) [
  | inl e ↦ rw e (inl e)
  | inr e ↦ elim (cases_Bool (is_less name q.name)) [
    | inl l ↦ rw (e, l) (inl (nat_list_eq_equiv.refl name))
    | inr l ↦ rw (e, l) (inr (l, found-new name text qs))
  ]
]

found-more : (name : List ℕ) (p : Pair) (qs : List Pair) → IsFound name qs → IsFound name (with_pair p qs)
found-more name p [] f = absurd f
found-more name p (q ∷ qs) f = elim (cases_Bool (bytes_eq p.name q.name)) [
  | inl e ↦ rw e f
  | inr e ↦ elim (cases_Bool (is_less p.name q.name)) [
    | inl l ↦ rw (e, l) (inr (before f l, f))
    | inr l ↦ rw (e, l) (later f (found-more name p qs))
  ]
]
  where
    before : IsFound name (q ∷ qs) → is_less p.name q.name ≡ true → is_less name p.name ≡ false
    before (inl same) l = subst (λ n. is_less n p.name ≡ false) (sym (same-bytes name q.name same)) (less-back p.name q.name l)
    before (inr h) l = less-past name q.name p.name h.0 l

    later : IsFound name (q ∷ qs) → (IsFound name qs → IsFound name (with_pair p qs)) → IsFound name (q ∷ with_pair p qs)
    later (inl same) more = inl same
    later (inr h) more = inr (h.0, more h.1)

-- ---- prefixes that are declared

pub declared-stays : (b : Bindings) (prefix : List ℕ) (space : ℕ) (qs : List Pair) → bytes_eq prefix xml_prefix ≡ false → IsFound (codes "xmlns:" ++ prefix) qs → with_prefix b prefix space qs ≡ qs
declared-stays b [] space qs e f = refl
declared-stays b (c ∷ cs) space qs e f = rw e (found-stays (codes "xmlns:" ++ (c ∷ cs)) (space_text b space) qs f)

pub declared-more : (keys keys2 : List (Bor (List ℕ))) (k : Bor (List ℕ)) (text : List ℕ) (qs new : List Pair) → keys2 ≡ insert_key (λ x y. bytes_eq x.now y.now) keys k
    → AreDeclared keys qs → new ≡ with_pair (pair (codes "xmlns:" ++ k.now) text) qs → AreDeclared keys2 new
declared-more keys keys2 k text qs new made known is prefix there = subst (IsFound (codes "xmlns:" ++ prefix)) (sym is) (elim (cases_Bool (list_any (λ j. bytes_eq prefix j.now) keys)) [
  | inl e ↦ found-more (codes "xmlns:" ++ prefix) (pair (codes "xmlns:" ++ k.now) text) qs (known prefix e)
  | inr e ↦ subst (λ n. IsFound (codes "xmlns:" ++ n) (with_pair (pair (codes "xmlns:" ++ k.now) text) qs)) (sym (same-bytes prefix k.now (last e))) (found-new (codes "xmlns:" ++ k.now) text qs)
])
  where
    part : (a b : Bool) → (a || (b || false)) ≡ true → a ≡ false → b ≡ true
    part true b e f = absurd (true≢false f)
    part false true e f = refl
    part false false e f = e

    last : list_any (λ (j : Bor (List ℕ)). bytes_eq prefix j.now) keys ≡ false → bytes_eq prefix k.now ≡ true
    last e = elim (cases_Bool (list_any (λ (j : Bor (List ℕ)). bytes_eq k.now j.now) keys)) [
      | inl f ↦ absurd (false≢true (sym e ∙ ap (list_any (λ (j : Bor (List ℕ)). bytes_eq prefix j.now)) (sym (made ∙ ap (λ b. if b then keys else keys ++ (k ∷ [])) f)) ∙ there))
      | inr f ↦ part (list_any (λ (j : Bor (List ℕ)). bytes_eq prefix j.now) keys) (bytes_eq prefix k.now)
          (sym (list_any-append (λ (j : Bor (List ℕ)). bytes_eq prefix j.now) keys (k ∷ [])) ∙ ap (list_any (λ (j : Bor (List ℕ)). bytes_eq prefix j.now)) (sym (made ∙ ap (λ b. if b then keys else keys ++ (k ∷ [])) f)) ∙ there) e
    ]

-- ---- one pair after another

pub pairs-snoc : (xs : List Pair) (x : Pair) (qs : List Pair) → with_pairs (xs ++ (x ∷ [])) qs ≡ with_pairs xs (with_pair x qs)
pairs-snoc [] x qs = refl
pairs-snoc (p ∷ ps) x qs = ap (with_pair p) (pairs-snoc ps x qs)

-- a name that the pair before a place has
pub place-taken : (name text : List ℕ) (pairs : List Pair) (at : ℕ) (q : Pair) → 0 < at → at ≤ length pairs → q ≡ get_or pairs (at - 1) q → bytes_eq name q.name ≡ true
    → with_pair (pair name text) (reverse pairs) ≡ reverse (drop at pairs) ++ with_pair (pair name text) (reverse (take at pairs)) → with_pair (pair name text) (reverse pairs) ≡ reverse pairs
place-taken name text pairs at q some h is same so_far =
    let i = at - 1 in
    let sum : i + 1 ≡ at = omega arith in
    let within : i < length pairs = omega arith in
    let front : reverse (take at pairs) ≡ q ∷ reverse (take i pairs) =
    ap (λ k. reverse (take k pairs)) (sym sum) ∙ ap reverse (take_more pairs i q within ∙ ap (λ y. take i pairs ++ (y ∷ [])) (sym is)) ∙ reverse-append (take i pairs) (q ∷ []) in
    let stays : with_pair (pair name text) (q ∷ reverse (take i pairs)) ≡ q ∷ reverse (take i pairs) = rw same refl in
    so_far ∙ ap (λ l. reverse (drop at pairs) ++ l) (ap (with_pair (pair name text)) front ∙ stays ∙ sym front)
    ∙ sym (reverse-append (take at pairs) (drop at pairs)) ∙ ap reverse (take-append-drop at pairs)
