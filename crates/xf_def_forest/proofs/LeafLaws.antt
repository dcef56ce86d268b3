-- In trees, below an element without element children stand attributes, then texts, and nothing else.
use Rattle.std.proofs.Common.{◌≡◌, ℕ, suc, ◌==◌, Bool, true, false, not, cond, ◌&&◌, ◌||◌, List, [], ◌∷◌, nat_lt, Option, Some, refl, sym, ap, ◌∙◌, subst, inl, inr, arith}
use Rattle.std.specs.Prelude.{⊤, nat_le}
use Rattle.std.specs.List.{list_any}
use Rattle.std.proofs.lemmas.Bool.{cases_Bool}
use Rattle.std.proofs.lemmas.Bool.Decides.{nat_tests}
use Rattle.xf_def_forest.specs.declared.content.Node.{Node}
use Rattle.xf_def_forest.specs.declared.content.Content.{Content}
use Rattle.xf_def_forest.specs.declared.content.Content.TheVariants.{Root, Element, Attribute, Text}
use Rattle.xf_def_forest.specs.declared.content.Kind.TheVariants as kind
use Rattle.xf_def_forest.specs.Forest.{Forest, kind_of, kind_at, is_root, is_element, is_attribute, is_text, below}
use Rattle.xf_def_forest.specs.Visit.{Visit, is_first, still_above, numbers, visit, visits_from, visits}
use Rattle.xf_def_forest.specs.Shape.{has_elements}
use Rattle.xf_def_forest.specs.WellFormed.{HasTrees, reach, are_depths_from, stands_first, are_first, are_tops}
use Rattle.xf_def_forest.proofs.RunLemmas.{IsRun, AreTexts, IsLeafAt}
use Rattle.xf_def_forest.proofs.VisitLemmas.{BeginsWithin, closed, deeper-by_one}
use Rattle.xf_def_forest.proofs.BackLaws.{false-true, and-true, or-false}

true-false : true ≡ false → ⊥
true-false e = false-true (sym e)

within : (d : ℕ) (xs : List Node) → are_depths_from d xs ≡ true → BeginsWithin d xs
within d [] h = tt
within d (x ∷ xs) h = let k = (and-true (nat_le x.depth d) (are_depths_from (reach x) xs) h).0 in grind (arith, nat_tests, k)

one_deeper : (d e : ℕ) → nat_lt d e ≡ true → nat_le e (suc d) ≡ true → e ≡ suc d
one_deeper d e h k = grind (arith, nat_tests, h, k)

module _ (n : ℕ) (x : Node) (stay : List Node) (here : (x.number == n) ≡ true) where
  abbrev is_child : Visit → Bool
  is_child v = is_element v.content && is_first n v.above

  above-is : (y : Node) → y.depth ≡ suc x.depth → still_above y.depth (x ∷ stay) ≡ x ∷ stay
  above-is y deep = ap (λ d. still_above d (x ∷ stay)) deep ∙ rw (deeper-by_one x.depth) refl

  -- no element is a child
  no_element : (y : Node) (name : _) (ys : List Visit) → y.content ≡ Element name → y.depth ≡ suc x.depth → (is_child (visit (x ∷ stay) y) || list_any is_child ys) ≡ false → ⊥
  no_element y name ys is deep h =
      let turned : (n == x.number) ≡ true = grind (arith, nat_tests, here) in
      let parts = or-false (is_child (visit (x ∷ stay) y)) (list_any is_child ys) h in
      let one : is_child (visit (x ∷ stay) y) ≡ true = ap (λ c. is_element c && is_first n (numbers (still_above y.depth (x ∷ stay)))) is ∙ ap (λ l. is_first n (numbers l)) (above-is y deep) ∙ turned in
      true-false (sym one ∙ parts.0)

  -- what is left after a child that has nothing below it
  after-child : (y : Node) (ys : List Node) → y.depth ≡ suc x.depth → reach y ≡ y.depth → are_depths_from (reach y) ys ≡ true
      → list_any is_child (visits_from (y ∷ still_above y.depth (x ∷ stay)) ys) ≡ false → (are_depths_from (suc x.depth) ys ≡ true) × (list_any is_child (visits_from (x ∷ stay) ys) ≡ false)
  after-child y ys deep flat depths h =
      let begins : BeginsWithin y.depth ys = within y.depth ys (subst (λ d. are_depths_from d ys ≡ true) flat depths) in (
        subst (λ d. are_depths_from d ys ≡ true) (flat ∙ deep) depths,
        subst (λ l. list_any is_child l ≡ false) (closed y (x ∷ stay) ys begins) (subst (λ l. list_any is_child (visits_from (y ∷ l) ys) ≡ false) (above-is y deep) h),
      )

  not-root : (y : Node) (rest : Bool) → y.content ≡ Root → y.depth ≡ suc x.depth → ((not (is_root y.content) || (y.depth == 0)) && rest) ≡ true → ⊥
  not-root y rest is deep h =
      let first = (and-true (not (is_root y.content) || (y.depth == 0)) rest h).0 in
      let zero : (y.depth == 0) ≡ true = ap (λ c. not (is_root c) || (y.depth == 0)) (sym is) ∙ first in
      let no : ⊥ = grind (arith, nat_tests, zero, deep) in no

  -- what is known of the nodes after the one named first, which is the element or one of its attributes and texts
  record Rest (p : Node) (ys : List Node) : Type 0 where
    depths : are_depths_from (suc x.depth) ys ≡ true
    first : are_first (p ∷ ys) ≡ true
    tops : are_tops ys ≡ true
    childless : list_any is_child (visits_from (x ∷ stay) ys) ≡ false

  flat-attribute : (y : Node) (name : _) (text : List ℕ) → y.content ≡ Attribute name text → reach y ≡ y.depth
  flat-attribute y name text is = ap (λ c. cond (is_attribute c || is_text c) y.depth (suc y.depth)) is

  flat-text : (y : Node) (text : List ℕ) → y.content ≡ Text text → reach y ≡ y.depth
  flat-text y text is = ap (λ c. cond (is_attribute c || is_text c) y.depth (suc y.depth)) is

  later : (p y : Node) (ys : List Node) → y.depth ≡ suc x.depth → reach y ≡ y.depth → Rest p (y ∷ ys) → Rest y ys
  later p y ys deep flat r =
      let depths = (and-true (nat_le y.depth (suc x.depth)) (are_depths_from (reach y) ys) r.depths).1 in
      let child = or-false (is_child (visit (x ∷ stay) y)) (list_any is_child (visits_from (y ∷ still_above y.depth (x ∷ stay)) ys)) r.childless in
      let k = after-child y ys deep flat depths child.1 in
      record {
        depths = k.0;
        first = (and-true (stands_first p y) (are_first (y ∷ ys)) r.first).1;
        tops = (and-true (not (is_root y.content) || (y.depth == 0)) (are_tops ys) r.tops).1;
        childless = k.1;
      }

  -- an attribute does not follow a text
  no_attribute : (p y : Node) (name : _) (text : List ℕ) (rest : Bool) → is_element p.content ≡ false → is_attribute p.content ≡ false → y.content ≡ Attribute name text → y.depth ≡ suc x.depth
      → (stands_first p y && rest) ≡ true → ⊥
  no_attribute p y name text rest a b is deep h =
      let follows = (and-true (stands_first p y) rest h).0 in
      let deeper : (y.depth == 0) ≡ false = grind (arith, nat_tests, deep) in
      let none : stands_first p y ≡ false = ap (λ c. not (is_attribute c) || (y.depth == 0) || (is_element p.content && (suc p.depth == y.depth)) || (is_attribute p.content && (p.depth == y.depth))) is ∙ rw (deeper, a, b) refl in
      false-true (sym none ∙ follows)

  deep-of : (y : Node) (ys : List Node) → nat_lt x.depth y.depth ≡ true → are_depths_from (suc x.depth) (y ∷ ys) ≡ true → y.depth ≡ suc x.depth
  deep-of y ys e h = one_deeper x.depth y.depth e (and-true (nat_le y.depth (suc x.depth)) (are_depths_from (reach y) ys) h).0

  texts-below : (p : Node) (ys : List Node) → is_element p.content ≡ false → is_attribute p.content ≡ false → Rest p ys → AreTexts x.depth (below x.depth ys)
  texts-below p [] a b r = tt
  texts-below p (y ∷ ys) a b r =
      elim (cases_Bool (nat_lt x.depth y.depth)) [
        | inl e ↦ rw e (by (λ next. texts-below y ys next.0 next.1 next.2) y.content refl (deep-of y ys e r.depths))
        | inr e ↦ rw e tt
      ]
    where
      by : ((is_element y.content ≡ false) × (is_attribute y.content ≡ false) × Rest y ys → AreTexts x.depth (below x.depth ys))
          → (c : Content) → y.content ≡ c → y.depth ≡ suc x.depth → (is_text y.content ≡ true) × (y.depth ≡ suc x.depth) × AreTexts x.depth (below x.depth ys)
      by next Root is deep = absurd (not-root y (are_tops ys) is deep r.tops)
      by next (Element name) is deep = absurd (no_element y name (visits_from (y ∷ still_above y.depth (x ∷ stay)) ys) is deep r.childless)
      by next (Attribute name text) is deep = absurd (no_attribute p y name text (are_first (y ∷ ys)) a b is deep r.first)
      by next (Text text) is deep = (ap is_text is, deep, next (ap is_element is, ap is_attribute is, later p y ys deep (flat-text y text is) r))

  run-below : (p : Node) (ys : List Node) → Rest p ys → IsRun x.depth (below x.depth ys)
  run-below p [] r = tt
  run-below p (y ∷ ys) r =
      elim (cases_Bool (nat_lt x.depth y.depth)) [
        | inl e ↦ rw e (by (λ next. run-below y ys next) y.content refl (deep-of y ys e r.depths))
        | inr e ↦ rw e tt
      ]
    where
      by : (Rest y ys → IsRun x.depth (below x.depth ys)) → (c : Content) → y.content ≡ c → y.depth ≡ suc x.depth → IsRun x.depth (y ∷ below x.depth ys)
      by next Root is deep = absurd (not-root y (are_tops ys) is deep r.tops)
      by next (Element name) is deep = absurd (no_element y name (visits_from (y ∷ still_above y.depth (x ∷ stay)) ys) is deep r.childless)
      by next (Attribute name text) is deep = inl (ap is_attribute is, deep, next (later p y ys deep (flat-attribute y name text is) r))
      by next (Text text) is deep = inr (ap is_text is, deep, texts-below y ys (ap is_element is) (ap is_attribute is) (later p y ys deep (flat-text y text is) r))

-- ---- the law

abbrev IsElementAt : ℕ → List Node → Type 0
IsElementAt n [] = ⊤
IsElementAt n (x ∷ xs) = cond (x.number == n) (is_element x.content ≡ true) (IsElementAt n xs)

first-tail : (x : Node) (xs : List Node) → are_first (x ∷ xs) ≡ true → are_first xs ≡ true
first-tail x [] h = refl
first-tail x (y ∷ ys) h = (and-true (stands_first x y) (are_first (y ∷ ys)) h).1

leaf-from : (n most : ℕ) (above nodes : List Node) → IsElementAt n nodes → are_depths_from most nodes ≡ true → are_first nodes ≡ true → are_tops nodes ≡ true
    → list_any (λ v. is_element v.content && is_first n v.above) (visits_from above nodes) ≡ false → IsLeafAt n nodes
leaf-from n most above [] is depths first tops none = tt
leaf-from n most above (x ∷ xs) is depths first tops none =
    let stay = still_above x.depth above in
    let inner = (and-true (nat_le x.depth most) (are_depths_from (reach x) xs) depths).1 in
    let tail = (and-true (not (is_root x.content) || (x.depth == 0)) (are_tops xs) tops).1 in
    let others = (or-false (is_element x.content && is_first n (numbers stay)) (list_any (λ v. is_element v.content && is_first n v.above) (visits_from (x ∷ stay) xs)) none).1 in
    elim (cases_Bool (x.number == n)) [
      | inl e ↦ rw e (
        rw e at is,
        run-below n x stay e x xs (record {
          depths = subst (λ d. are_depths_from d xs ≡ true) (element-reach x.content (rw e at is)) inner;
          first = first;
          tops = tail;
          childless = others;
        }),
      )
      | inr e ↦ rw e (leaf-from n (reach x) (x ∷ stay) xs (rw e at is) inner (first-tail x xs first) tail others)
    ]
  where
    element-reach : (c : Content) → is_element c ≡ true → cond (is_attribute c || is_text c) x.depth (suc x.depth) ≡ suc x.depth
    element-reach Root e = refl
    element-reach (Element name) e = refl
    element-reach (Attribute name text) e = absurd (false-true e)
    element-reach (Text text) e = absurd (false-true e)

-- a node of this kind is an element there
element-at : (n : ℕ) (nodes : List Node) → kind_at n nodes ≡ Some kind.Element → IsElementAt n nodes
element-at n [] h = tt
element-at n (x ∷ xs) h =
    elim (cases_Bool (x.number == n)) [
      | inl e ↦ rw e (of_kind x.content (some (rw e at h)))
      | inr e ↦ rw e (element-at n xs (rw e at h))
    ]
  where
    some : {K : Type 0} {a b : K} → ◌≡◌ {A = Option K} (Some a) (Some b) → a ≡ b
    some e = cc e

    of_kind : (c : Content) → kind_of c ≡ kind.Element → is_element c ≡ true
    of_kind Root e = cc e
    of_kind (Element name) e = refl
    of_kind (Attribute name text) e = cc e
    of_kind (Text text) e = cc e

-- what the laws on texts need of an element stands in every forest
pub leaf-in_forest : (n : ℕ) (forest : Forest) → HasTrees forest → kind_at n forest.nodes ≡ Some kind.Element → has_elements (visits forest.nodes) n ≡ false → IsLeafAt n forest.nodes
leaf-in_forest n forest sound is none = leaf-from n 0 [] forest.nodes (element-at n forest.nodes is) sound.depths sound.first sound.tops none
