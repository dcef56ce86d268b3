-- The laws on texts, in every forest: a setting never changes the shape, and is undone by putting back what was before.
use Rattle.std.proofs.Common.{◌≡◌, ℕ, ◌==◌, true, false, not, List, [], ◌∷◌, Option, Some, None, refl, subst, inl, inr}
use Rattle.std.specs.Prelude.{◌⊎◌}
use Rattle.std.proofs.lemmas.Bool.{cases_Bool}
use Rattle.xf_def_forest.specs.declared.content.Node.{Node}
use Rattle.xf_def_forest.specs.declared.content.Content.{Content}
use Rattle.xf_def_forest.specs.declared.content.Content.TheVariants.{Root, Element, Attribute, Text}
use Rattle.xf_def_forest.specs.declared.content.Kind.{Kind}
use Rattle.xf_def_forest.specs.declared.content.Kind.TheVariants as kind
use Rattle.xf_def_forest.specs.Forest.{Forest, kind_of, kind_at, is_attribute, has_number}
use Rattle.xf_def_forest.specs.Shape.{shape_of}
use Rattle.xf_def_forest.specs.WellFormed.{HasTrees, AreTrees, are_apart}
use Rattle.xf_def_forest.specs.Needs.{IsSettable}
use Rattle.xf_def_forest.specs.Texts.{Keeping, is_attribute_at, with_text, put_back, before_of}
use Rattle.xf_def_forest.proofs.BackLaws.{HasText, after_set, put_back-after_set, outside-all, and-true, not-true, attribute-absent, one_number}
use Rattle.xf_def_forest.proofs.ShapeLaws.{shape-with_text}
use Rattle.xf_def_forest.proofs.LeafLaws.{leaf-in_forest}

-- what holds of a forest with kept texts holds of the forest
pub in_forest : {k : Keeping} → AreTrees k → HasTrees k.forest
in_forest sound = record { apart = sound.apart; below = sound.below; depths = sound.depths; tops = sound.tops; first = sound.first }

some : {K : Type 0} {a b : K} → ◌≡◌ {A = Option K} (Some a) (Some b) → a ≡ b
some e = cc e

attribute-kind : (c : Content) → kind_of c ≡ kind.Attribute → is_attribute c ≡ true
attribute-kind Root e = cc e
attribute-kind (Element name) e = cc e
attribute-kind (Attribute name text) e = refl
attribute-kind (Text text) e = cc e

element-kind : (c : Content) → kind_of c ≡ kind.Element → is_attribute c ≡ false
element-kind Root e = refl
element-kind (Element name) e = refl
element-kind (Attribute name text) e = cc e
element-kind (Text text) e = refl

attribute-there : (n : ℕ) (nodes : List Node) → kind_at n nodes ≡ Some kind.Attribute → is_attribute_at n nodes ≡ true
attribute-there n [] h = absurd (no h)
  where
    no : ◌≡◌ {A = Option Kind} None (Some kind.Attribute) → ⊥
    no e = cc e
attribute-there n (x ∷ xs) h =
    elim (cases_Bool (x.number == n)) [
      | inl e ↦ rw (e, attribute-kind x.content (some (rw e at h))) refl
      | inr e ↦ rw e (attribute-there n xs (rw e at h))
    ]

element-there : (n : ℕ) (nodes : List Node) → are_apart nodes ≡ true → kind_at n nodes ≡ Some kind.Element → is_attribute_at n nodes ≡ false
element-there n [] apart h = refl
element-there n (x ∷ xs) apart h =
    let parts = and-true (not (has_number x.number xs)) (are_apart xs) apart in
    elim (cases_Bool (x.number == n)) [
      | inl e ↦
          let gone : has_number n xs ≡ false = subst (λ m. has_number m xs ≡ false) (one_number x.number n e) (not-true (has_number x.number xs) parts.0) in
          rw (e, element-kind x.content (some (rw e at h)), attribute-absent n xs gone) refl
      | inr e ↦ rw e (element-there n xs parts.1 (rw e at h))
    ]

pub has_text : (n : ℕ) (forest : Forest) → HasTrees forest → IsSettable n forest → HasText n forest.nodes
has_text n forest sound able = by able.kind
  where
    by : (kind_at n forest.nodes ≡ Some kind.Attribute) ⊎ (kind_at n forest.nodes ≡ Some kind.Element) → HasText n forest.nodes
    by (inl h) = inl (attribute-there n forest.nodes h)
    by (inr h) = inr (element-there n forest.nodes sound.apart h, leaf-in_forest n forest sound h able.childless)

-- setting a text never changes the shape
pub setting-keeps_shape : (n : ℕ) (text : List ℕ) (forest : Forest) → HasTrees forest → IsSettable n forest → shape_of (with_text n text forest).nodes ≡ shape_of forest.nodes
setting-keeps_shape n text forest sound able = shape-with_text n text forest able.childless (has_text n forest sound able)

-- a setting is undone by putting back what was before: all but the next number is again as it was
pub setting-undone : (n : ℕ) (text : List ℕ) (k : Keeping) → AreTrees k → IsSettable n k.forest
    → put_back n (before_of n k.forest.nodes) (after_set n text k) ≡ record k { forest = record k.forest { next = (with_text n text k.forest).next } }
setting-undone n text k sound able =
    put_back-after_set n text k sound.apart (outside-all k.forest.nodes k.kept sound.kept_outside) (has_text n k.forest (in_forest sound) able)
