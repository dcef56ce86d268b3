-- The texts of before in nodes that are marked for another text may have numbers that no node of now has.
use Rattle.std.proofs.Common.{◌≡◌, ℕ, ◌==◌, Bool, true, false, not, cond, ◌&&◌, List, [], ◌∷◌, map, nat_lt, Some, option_map, refl, sym, ap, ◌∙◌, inl, inr, arith}
use Rattle.std.specs.Prelude.{◌⊎◌, ◌^◌, filter}
use Rattle.std.proofs.lemmas.Bool.{eqb-true}
use Rattle.std.proofs.lemmas.Bool.Decides.{nat_tests}
use Rattle.xf_def_forest.specs.Forest.{Forest, is_text, has_number}
use Rattle.xf_def_forest.specs.Visit.{Visit, has}
use Rattle.xf_def_forest.specs.Shape.{erased}
use Rattle.xf_def_forest.specs.Changes.{in_instances}
use Rattle.xf_def_forest.specs.Same.{IsRenumbering, renumbered_visit}
use Rattle.xf_def_forest.specs.WellFormed.{HasTrees}
use Rattle.xf_def_forest.proofs.BackLaws.{and-true}
use Rattle.xf_def_forest.proofs.OrderLaws.{seen-has}
use Rattle.xf_def_xpath.specs.Given.{Document}
use Rattle.xf_def_xpath.specs.Asked.{found}
use Rattle.xf_def_xpath.specs.Agree.{numbers_of, are_apart, untexted, AreVisits}
use Rattle.xf_def_xpath.proofs.VisitFacts.{no, self-same, or-cases, or-left, or-right, present, found-number}
use Rattle.xf_def_xpath.proofs.UntextedLaws.{solid-found}
use Rattle.xf_def_xpath.proofs.ForestVisits.{Each, each-map, each-found, self-found, found-erased, forest-visits}
use Rattle.xf_def_model.specs.Rules.{Scope}
use Rattle.xf_law_recalculation.specs.Marks.Binds.{instances_of}
use Rattle.xf_law_recalculation.specs.Marks.Instances.{standing}
use Rattle.xf_law_recalculation.proofs.MarksLemmas.BindInstances.{front-number, front-trees}
use Rattle.xf_law_recalculation.proofs.MarksLemmas.TextLists.{opened, not-of, text-kept, original}
use Rattle.xf_law_recalculation.specs.Change.Carried.{set_aside, Carried}
use Rattle.xf_law_recalculation.proofs.ChangeLemmas.Carry.{standing-apart, differ-of}
use Rattle.xf_law_recalculation.specs.Bind.Since.{first_marked, is_loose}

-- what one of two lists keeps the other does, where the items that differ are kept by neither
filter-two : (p : Visit → Bool) (a b : Visit → Visit) (xs : List Visit) → Each (λ y. (a y ≡ b y) ⊎ ((p (a y) ≡ false) × (p (b y) ≡ false))) xs → filter p (map a xs) ≡ filter p (map b xs)
filter-two p a b [] e = refl
filter-two p a b (x ∷ xs) e = elim e.0 [
  | inl i ↦ ap (λ y. cond (p y) (y ∷ filter p (map a xs)) (filter p (map a xs))) i ∙ ap (λ l. cond (p (b x)) (b x ∷ l) l) (filter-two p a b xs e.1)
  | inr i ↦
      ap (λ c. cond c (a x ∷ filter p (map a xs)) (filter p (map a xs))) i.0 ∙ filter-two p a b xs e.1 ∙ sym (ap (λ c. cond c (b x ∷ filter p (map b xs)) (filter p (map b xs))) i.1)
]

module _ (f : ℕ → ℕ) (taken : ℕ → Bool) (texts lists : List ℕ) (scope : Scope) (documents : List Document) (now before : Forest) (trees : HasTrees now)
    (carried : Carried f taken texts lists scope documents now before) where
  abbrev P : List Visit
  P = standing now

  abbrev P0 : List Visit
  P0 = standing before

  abbrev F : List Visit
  F = map (renumbered_visit f) P0

  abbrev loose : ℕ → Bool
  loose k = is_loose f texts (found k P0)

  abbrev keeps_number : ℕ → Bool
  keeps_number k = has k (numbers_of P0) && not (loose k)

  abbrev pub loosened : ℕ → ℕ
  loosened k = cond (keeps_number k) (f k) (set_aside k)

  abbrev g : ℕ → ℕ
  g = loosened

  abbrev G : List Visit
  G = map (renumbered_visit g) P0

  kept : (k : ℕ) → keeps_number k ≡ true → g k ≡ f k
  kept k h = ap (λ b. cond b (f k) (set_aside k)) h

  aside : (k : ℕ) → keeps_number k ≡ false → g k ≡ set_aside k
  aside k h = ap (λ b. cond b (f k) (set_aside k)) h

  stood : (k : ℕ) → keeps_number k ≡ true → has k (numbers_of P0) ≡ true
  stood k h = (and-true (has k (numbers_of P0)) (not (loose k)) h).0

  pub held : (k : ℕ) → has k (numbers_of P0) ≡ true → loose k ≡ false → g k ≡ f k
  held k h i = kept k (ap (λ b. b && not (loose k)) h ∙ ap not i)

  small-taken : (k : ℕ) → taken k ≡ true → nat_lt k (2 ^ 127) ≡ true
  small-taken k h = let l = carried.less k h in let m = carried.few in grind (arith, nat_tests, l, m)

  -- ---- the new numbers

  differ-by : (a c : ℕ) → keeps_number a ≡ true → keeps_number c ≡ false → (a == c) ≡ false
  differ-by a c h i = differ-of (a == c) (λ e. sym h ∙ ap keeps_number (eqb-true a c e) ∙ i)

  turned : (a c : ℕ) → (a == c) ≡ (c == a)
  turned a c = grind (arith, nat_tests)

  one-aside : (a c : ℕ) → (set_aside a == set_aside c) ≡ (a == c)
  one-aside a c = grind (arith, nat_tests)

  small-other : (m c : ℕ) → nat_lt m (2 ^ 127) ≡ true → (m == set_aside c) ≡ false
  small-other m c h = grind (arith, nat_tests, h)

  kept-aside : (a c : ℕ) → keeps_number a ≡ true → keeps_number c ≡ false → (f a == set_aside c) ≡ (a == c)
  kept-aside a c h i = elim (carried.was a (stood a h)) [
    | inl e ↦ small-other (f a) c (small-taken (f a) e) ∙ sym (differ-by a c h i)
    | inr e ↦ ap (λ m. m == set_aside c) e ∙ one-aside a c
  ]

  pub renumbers : IsRenumbering loosened
  renumbers a c = by (keeps_number a) (keeps_number c) refl refl
    where
      by : (h i : Bool) → keeps_number a ≡ h → keeps_number c ≡ i → (g a == g c) ≡ (a == c)
      by true true h i = ap (λ m. m == g c) (kept a h) ∙ ap (λ m. f a == m) (kept c i) ∙ carried.same.renumbers a c
      by true false h i = ap (λ m. m == g c) (kept a h) ∙ ap (λ m. f a == m) (aside c i) ∙ kept-aside a c h i
      by false true h i = ap (λ m. m == g c) (aside a h) ∙ ap (λ m. set_aside a == m) (kept c i) ∙ turned (set_aside a) (f c) ∙ kept-aside c a i h ∙ turned c a
      by false false h i = ap (λ m. m == g c) (aside a h) ∙ ap (λ m. set_aside a == m) (aside c i) ∙ one-aside a c

  pub small : (k : ℕ) → has k (numbers_of P0) ≡ true → nat_lt (g k) (2 ^ 128) ≡ true
  small k h = by (keeps_number k) refl
    where
      far : nat_lt (set_aside k) (2 ^ 128) ≡ true
      far = let l = carried.few_before k h in grind (arith, nat_tests, l)

      by : (b : Bool) → keeps_number k ≡ b → nat_lt (g k) (2 ^ 128) ≡ true
      by true e = ap (λ m. nat_lt m (2 ^ 128)) (kept k e) ∙ carried.same.below k h
      by false e = ap (λ m. nat_lt m (2 ^ 128)) (aside k e) ∙ far

  live : (k : ℕ) → has k (numbers_of P) ≡ true → has_number k now.nodes ≡ true
  live k h = by (has_number k now.nodes) refl
    where
      by : (b : Bool) → has_number k now.nodes ≡ b → b ≡ true
      by true e = refl
      by false e = sym (front-number k now.nodes e) ∙ sym (seen-has k [] (in_instances now.nodes)) ∙ h

  pub small-now : (k : ℕ) → has k (numbers_of P) ≡ true → nat_lt k (2 ^ 127) ≡ true
  small-now k h = small-taken k (carried.nodes k (live k h))

  aside-nowhere : (k : ℕ) → has (set_aside k) (numbers_of P) ≡ false
  aside-nowhere k = differ-of (has (set_aside k) (numbers_of P)) (λ h. too-great (small-now (set_aside k) h))
    where
      too-great : nat_lt (set_aside k) (2 ^ 127) ≡ true → true ≡ false
      too-great h = grind (arith, nat_tests, h)

  -- ---- each node of before

  abbrev gone : Visit → Bool
  gone y = is_text y.content && first_marked texts (map f y.above)

  apart-before : are_apart (numbers_of P0) ≡ true
  apart-before = standing-apart before carried.same.trees

  bare-before : AreVisits (map erased P0)
  bare-before = forest-visits (instances_of before) (front-trees before carried.same.trees)

  solid-above : (ns : List ℕ) (k : ℕ) (y : Visit) → found k (map erased P0) ≡ Some y → y.above ≡ ns → (n : ℕ) → has n ns ≡ true → (z : Visit) × (found n (untexted (map erased P0)) ≡ Some z)
  solid-above [] k y e a n h = no h
  solid-above (p ∷ ps) k y e a n h =
      let z = opened (found p (untexted (map erased P0))) ps (bare-before.closed k p ps y e a) in
      elim (or-cases (n == p) (has n ps) h) [
        | inl i ↦ (z.0, ap (λ m. found m (untexted (map erased P0))) (eqb-true n p i) ∙ z.1)
        | inr i ↦ solid-above ps p z.0 (solid-found (map erased P0) bare-before p z.0 z.1).0 z.2 n i
      ]

  -- what stands above it, which is no text, keeps its number
  keeps-above : (y : Visit) → found y.number P0 ≡ Some y → (n : ℕ) → has n y.above ≡ true → g n ≡ f n
  keeps-above y e n h =
      let z = solid-above y.above y.number (erased y) (found-erased y.number P0 ∙ ap (option_map erased) e) refl n h in
      let at = solid-found (map erased P0) bare-before n z.0 z.1 in
      let w = original n P0 z.0 at.0 in
      held n (present n P0 w.0 w.1)
      (ap (is_loose f texts) w.1 ∙ ap (λ b. b && first_marked texts (map f w.0.above)) (sym (text-kept w.0.content) ∙ ap (λ (v : Visit). is_text v.content) w.2 ∙ not-of (is_text z.0.content) at.1))

  same-above : (y : Visit) → found y.number P0 ≡ Some y → map g y.above ≡ map f y.above
  same-above y e = mapped y.above (keeps-above y e)
    where
      mapped : (ns : List ℕ) → ((n : ℕ) → has n ns ≡ true → g n ≡ f n) → map g ns ≡ map f ns
      mapped [] h = refl
      mapped (n ∷ ns) h = ap (λ m. m ∷ map g ns) (h n (or-left (n == n) (has n ns) (self-same n))) ∙ ap (λ l. f n ∷ l) (mapped ns (λ k i. h k (or-right (k == n) (has k ns) i)))

  -- it is the same with both numbers, or a text with a number that no node of now has
  loose-or-same : (y : Visit) → found y.number P0 ≡ Some y → (renumbered_visit g y ≡ renumbered_visit f y) ⊎ ((gone y ≡ true) × (g y.number ≡ set_aside y.number))
  loose-or-same y e = by (gone y) refl
    where
      is : loose y.number ≡ gone y
      is = ap (is_loose f texts) e

      by : (b : Bool) → gone y ≡ b → (renumbered_visit g y ≡ renumbered_visit f y) ⊎ ((gone y ≡ true) × (g y.number ≡ set_aside y.number))
      by true h = inr (h, aside y.number (ap (λ b. has y.number (numbers_of P0) && not b) (is ∙ h) ∙ none (has y.number (numbers_of P0))))
        where
          none : (b : Bool) → (b && false) ≡ false
          none true = refl
          none false = refl
      by false h = inl (
          ap (λ m. record { number = m; above = map g y.above; content = y.content }) (held y.number (present y.number P0 y e) (is ∙ h))
          ∙ ap (λ l. record { number = f y.number; above = l; content = y.content }) (same-above y e)
          )

  -- a test that keeps no such text keeps the same of both
  pub kept-same : (p : Visit → Bool) → ((v : Visit) → is_text v.content ≡ true → first_marked texts v.above ≡ true → p v ≡ false) → filter p G ≡ filter p F
  kept-same p h = filter-two p (renumbered_visit g) (renumbered_visit f) P0
      (each-map (λ y. found y.number P0 ≡ Some y) (λ y. (renumbered_visit g y ≡ renumbered_visit f y) ⊎ ((p (renumbered_visit g y) ≡ false) × (p (renumbered_visit f y) ≡ false))) P0 one (self-found P0 apart-before))
    where
      one : (y : Visit) → found y.number P0 ≡ Some y → (renumbered_visit g y ≡ renumbered_visit f y) ⊎ ((p (renumbered_visit g y) ≡ false) × (p (renumbered_visit f y) ≡ false))
      one y e = elim (loose-or-same y e) [
        | inl i ↦ inl i
        | inr i ↦
            let both = and-true (is_text y.content) (first_marked texts (map f y.above)) i.0 in
            inr (h (renumbered_visit g y) both.0 (ap (first_marked texts) (same-above y e) ∙ both.1), h (renumbered_visit f y) both.0 both.1)
      ]

  -- and it is a text that no node of now has
  pub loose-away : (n : ℕ) (y : Visit) → found n G ≡ Some y → is_text y.content ≡ true → first_marked texts y.above ≡ true → has n (numbers_of P) ≡ false
  loose-away n y e t m =
      ap (λ k. has k (numbers_of P)) (sym (found-number n G y e))
      ∙ each-found (λ v. is_text v.content ≡ true → first_marked texts v.above ≡ true → has v.number (numbers_of P) ≡ false) n G y (made P0 (self-found P0 apart-before)) e t m
    where
      made : (xs : List Visit) → Each (λ y. found y.number P0 ≡ Some y) xs → Each (λ v. is_text v.content ≡ true → first_marked texts v.above ≡ true → has v.number (numbers_of P) ≡ false) (map (renumbered_visit g) xs)
      made [] d = tt
      made (x ∷ xs) d = (λ t m. of x d.0 t m, made xs d.1)
        where
          of : (x : Visit) → found x.number P0 ≡ Some x → is_text x.content ≡ true → first_marked texts (map g x.above) ≡ true → has (g x.number) (numbers_of P) ≡ false
          of x d t m =
              let loose_here : gone x ≡ true = ap (λ b. b && first_marked texts (map f x.above)) t ∙ ap (first_marked texts) (sym (same-above x d)) ∙ m in
              let number : g x.number ≡ set_aside x.number = aside x.number (ap (λ b. has x.number (numbers_of P0) && not b) (ap (is_loose f texts) d ∙ loose_here) ∙ none (has x.number (numbers_of P0))) in
              ap (λ k. has k (numbers_of P)) number ∙ aside-nowhere x.number
            where
              none : (b : Bool) → (b && false) ≡ false
              none true = refl
              none false = refl
