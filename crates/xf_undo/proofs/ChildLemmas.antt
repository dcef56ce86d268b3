-- The children of a node by their parents, where no number comes twice.
use Rattle.std.proofs.Common.{◌≡◌, ℕ, ◌==◌, Bool, true, false, not, cond, ◌&&◌, ◌||◌, List, [], ◌∷◌, map, Option, Some, None, refl, sym, ap, ◌∙◌, subst, inl, inr, arith}
use Rattle.std.specs.Prelude.{filter}
use Rattle.std.proofs.lemmas.Bool.{cases_Bool}
use Rattle.std.proofs.lemmas.Bool.Decides.{nat_tests}
use Rattle.xf_def_forest.specs.declared.content.Node.{Node}
use Rattle.xf_def_forest.specs.declared.content.Content.{Content}
use Rattle.xf_def_forest.specs.declared.content.Content.TheVariants.{Root, Element, Attribute, Text}
use Rattle.xf_def_forest.specs.declared.content.Kind.{Kind}
use Rattle.xf_def_forest.specs.Forest.{is_attribute, kind_of, kind_at, has_number}
use Rattle.xf_def_forest.specs.Texts.{is_attribute_at}
use Rattle.xf_def_forest.specs.Visit.{Visit, still_above, visits_from, visits, is_first, first_of, parent_of, has, children_of}
use Rattle.xf_def_forest.specs.WellFormed.{are_apart}
use Rattle.xf_undo.specs.Children.{is_number, is_attribute_kind}
use Rattle.xf_def_forest.proofs.BackLaws.{and-true, or-false, not-true, one_number, attribute-absent}

-- ---- attributes

some-kind : {a b : Kind} → ◌≡◌ {A = Option Kind} (Some a) (Some b) → a ≡ b
some-kind e = cc e

no-kind : {a : Kind} → ◌≡◌ {A = Option Kind} None (Some a) → ⊥
no-kind e = cc e

content-kind : (c : Content) → is_attribute c ≡ is_attribute_kind (kind_of c)
content-kind Root = refl
content-kind (Element name) = refl
content-kind (Attribute name text) = refl
content-kind (Text text) = refl

or-none : (a : Bool) → (a || false) ≡ a
or-none true = refl
or-none false = refl

pub attribute-test : (k : Kind) (m : ℕ) (nodes : List Node) → are_apart nodes ≡ true → Some k ≡ kind_at m nodes → is_attribute_at m nodes ≡ is_attribute_kind k
attribute-test k m [] apart h = absurd (no-kind (sym h))
attribute-test k m (x ∷ xs) apart h =
    let parts = and-true (not (has_number x.number xs)) (are_apart xs) apart in
    elim (cases_Bool (x.number == m)) [
      | inl e ↦
          let gone : has_number m xs ≡ false = subst (λ i. has_number i xs ≡ false) (one_number x.number m e) (not-true (has_number x.number xs) parts.0) in
          rw (e, attribute-absent m xs gone) (or-none (is_attribute x.content) ∙ content-kind x.content ∙ ap is_attribute_kind (sym (some-kind (rw e at h))))
      | inr e ↦ rw e (attribute-test k m xs parts.1 (rw e at h))
    ]

pub attribute-none : (m : ℕ) (nodes : List Node) → has_number m nodes ≡ false → is_attribute_at m nodes ≡ false
attribute-none m nodes h = attribute-absent m nodes h

-- a node that is not told live does not stand there
pub not-live : (there told : Bool) → (there ≡ true → told ≡ true) → told ≡ false → there ≡ false
not-live true told tells h = sym (tells refl) ∙ h
not-live false told tells h = refl

-- ---- children

turned : (m n : ℕ) → (m == n) ≡ (n == m)
turned m n = grind (arith, nat_tests)

first-is : (n : ℕ) (ns : List ℕ) → is_first n ns ≡ is_number (first_of ns) n
first-is n [] = refl
first-is n (m ∷ ms) = turned n m

none-child : (m n : ℕ) (above xs : List Node) → has_number m xs ≡ false → has m (children_of n (visits_from above xs)) ≡ false
none-child m n above [] h = refl
none-child m n above (x ∷ xs) h =
    let parts = or-false (x.number == m) (has_number m xs) h in
    let other : (m == x.number) ≡ false = turned m x.number ∙ parts.0 in
    by (is_first n (map (λ (y : Node). y.number) (still_above x.depth above)) && not (is_attribute x.content)) other (none-child m n (x ∷ still_above x.depth above) xs parts.1)
  where
    by : (b : Bool) → (m == x.number) ≡ false → has m (children_of n (visits_from (x ∷ still_above x.depth above) xs)) ≡ false
        → has m (map (λ (v : Visit). v.number) (cond b (record { number = x.number; above = map (λ (y : Node). y.number) (still_above x.depth above); content = x.content } ∷ filter (λ (v : Visit). is_first n v.above && not (is_attribute v.content)) (visits_from (x ∷ still_above x.depth above) xs))
        (filter (λ (v : Visit). is_first n v.above && not (is_attribute v.content)) (visits_from (x ∷ still_above x.depth above) xs)))) ≡ false
    by true e h = rw (e, h) refl
    by false e h = h

child-from : (m n : ℕ) (above xs : List Node) → are_apart xs ≡ true → has m (children_of n (visits_from above xs)) ≡ (is_number (parent_of m (visits_from above xs)) n && not (is_attribute_at m xs))
child-from m n above [] apart = refl
child-from m n above (x ∷ xs) apart =
    let parts = and-true (not (has_number x.number xs)) (are_apart xs) apart in
    elim (cases_Bool (x.number == m)) [
      | inl e ↦
          let gone : has_number m xs ≡ false = subst (λ i. has_number i xs ≡ false) (one_number x.number m e) (not-true (has_number x.number xs) parts.0) in
          let up = map (λ (y : Node). y.number) (still_above x.depth above) in
          rw (e, attribute-absent m xs gone) (here (is_first n up) (is_attribute x.content) (turned m x.number ∙ e) (none-child m n (x ∷ still_above x.depth above) xs gone)
          ∙ ap (λ b. b && not (is_attribute x.content)) (first-is n up) ∙ ap (λ b. is_number (first_of up) n && not b) (sym (or-none (is_attribute x.content))))
      | inr e ↦ rw e (there (is_first n (map (λ (y : Node). y.number) (still_above x.depth above)) && not (is_attribute x.content)) (turned m x.number ∙ e) (child-from m n (x ∷ still_above x.depth above) xs parts.1))
    ]
  where
    here : (f a : Bool) → (m == x.number) ≡ true → has m (children_of n (visits_from (x ∷ still_above x.depth above) xs)) ≡ false
        → has m (map (λ (v : Visit). v.number) (cond (f && not a) (record { number = x.number; above = map (λ (y : Node). y.number) (still_above x.depth above); content = x.content } ∷ filter (λ (v : Visit). is_first n v.above && not (is_attribute v.content)) (visits_from (x ∷ still_above x.depth above) xs))
        (filter (λ (v : Visit). is_first n v.above && not (is_attribute v.content)) (visits_from (x ∷ still_above x.depth above) xs)))) ≡ (f && not a)
    here true true e h = h
    here true false e h = rw e refl
    here false a e h = h

    there : (b : Bool) → (m == x.number) ≡ false → has m (children_of n (visits_from (x ∷ still_above x.depth above) xs)) ≡ (is_number (parent_of m (visits_from (x ∷ still_above x.depth above) xs)) n && not (is_attribute_at m xs))
        → has m (map (λ (v : Visit). v.number) (cond b (record { number = x.number; above = map (λ (y : Node). y.number) (still_above x.depth above); content = x.content } ∷ filter (λ (v : Visit). is_first n v.above && not (is_attribute v.content)) (visits_from (x ∷ still_above x.depth above) xs))
        (filter (λ (v : Visit). is_first n v.above && not (is_attribute v.content)) (visits_from (x ∷ still_above x.depth above) xs))))
        ≡ (is_number (parent_of m (visits_from (x ∷ still_above x.depth above) xs)) n && not (is_attribute_at m xs))
    there true e h = rw e h
    there false e h = h

-- a child stands below its parent, and is no attribute
pub child-test : (m n : ℕ) (nodes : List Node) → are_apart nodes ≡ true → has m (children_of n (visits nodes)) ≡ (is_number (parent_of m (visits nodes)) n && not (is_attribute_at m nodes))
child-test m n nodes apart = child-from m n [] nodes apart

pub child-none : (m n : ℕ) (nodes : List Node) → has_number m nodes ≡ false → has m (children_of n (visits nodes)) ≡ false
child-none m n nodes h = none-child m n [] nodes h
