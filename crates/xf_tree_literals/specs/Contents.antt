-- The contents of literal trees, one after another, and what holds of each such part of a tree.
use Rattle.std.specs.Prelude.{ℕ, Bool, ◌&&◌, nat_lt, nat_le, length, ◌≤◌, ◌≡◌, ◌^◌, true, false, List, [], ◌∷◌, map, flat_map}
use Rattle.xf_name.specs.declared.lit.Lit.{Lit}
use Rattle.xf_name.specs.declared.lit.LitElement.{LitElement, fold-LitElement}
use Rattle.xf_name.specs.Bindings.{Bindings}
use Rattle.xf_def_forest.specs.declared.content.Content.{Content}
use Rattle.xf_def_forest.specs.declared.bare.Bare.{Bare}
use Rattle.xf_def_forest.specs.declared.bare.BareElement.{BareElement, fold-BareElement}
use Rattle.xf_def_forest.specs.Plant.{Contents, lit_contents, element_contents, contents_of, is_less, written_of}
use Rattle.xf_def_forest.specs.Planted.{Elements, contents_of_bare, bare_contents, bare_element_contents, elements_of_bare, bare_elements, bare_element_elements}
use Rattle.xf_def_forest.specs.Limits.{Limits, size_of}
use Rattle.xf_def_forest.specs.Forest.{own_text, is_element}
use Rattle.xf_tree_rows.specs.Rows.{AreSteps}
use Rattle.xf_tree_walks.specs.Leaves.{AreLeaves}
use Rattle.xf_tree_walks.specs.First.{AreFirst, AllFrom}
use Rattle.xf_tree_walks.specs.Nodes.{AllPlain}

abbrev pub contents_of_element : Bindings → LitElement → Contents
contents_of_element b = fold-LitElement Contents Contents lit_contents (element_contents b)

abbrev pub contents_of_all : Bindings → List Lit → Contents
contents_of_all b xs space depth = flat_map (λ x. contents_of b x space depth) xs

abbrev pub bare_element_at : Bindings → BareElement → ℕ → List (ℕ × Content)
bare_element_at b e depth = fold-BareElement Contents Contents bare_contents (bare_element_contents b) e 0 depth

abbrev pub bare_all_at : Bindings → List Bare → ℕ → List (ℕ × Content)
bare_all_at b xs depth = flat_map (λ x. contents_of_bare b x 0 depth) xs

abbrev pub elements_of_element : BareElement → Elements
elements_of_element = fold-BareElement Elements Elements bare_elements bare_element_elements

abbrev pub elements_of_all : List Bare → Elements
elements_of_all xs = flat_map elements_of_bare xs

-- a part of a tree: nothing in it is less deep than this, and it may stand after whatever allows this depth, also to an attribute
pub record IsPart (depth : ℕ) (contents : List (ℕ × Content)) : Type 0 where
  pub steps : (most : ℕ) → depth ≤ most → AreSteps most (map (λ p. p.0) contents)
  pub deep : AllFrom depth (map (λ p. p.0) contents)
  pub plain : AllPlain contents
  pub leaves : AreLeaves contents
  pub first : AreFirst depth contents

-- each of these comes before a content by the bytes of written names
abbrev pub AllLess : Content → List Content → Type 0
AllLess content [] = Unit {0}
AllLess content (x ∷ xs) = (is_less (written_of x) (written_of content) ≡ true) × AllLess content xs

-- the last of these, where there is one, does not
abbrev pub EndsNotLess : Content → List Content → Type 0
EndsNotLess content [] = Unit {0}
EndsNotLess content (x ∷ []) = is_less (written_of x) (written_of content) ≡ false
EndsNotLess content (x ∷ (y ∷ ys)) = EndsNotLess content (y ∷ ys)

abbrev pub AllSmall : List Content → Type 0
AllSmall [] = Unit {0}
AllSmall (c ∷ cs) = (size_of c ≤ 2 ^ 66) × AllSmall cs

-- a text that is longer than the limit, and an element that is deeper
abbrev pub is_long : Limits → ℕ × Content → Bool
is_long l p = nat_lt l.text (length (own_text p.1))

abbrev pub is_deep : Limits → ℕ × Content → Bool
is_deep l p = is_element p.1 && nat_le l.depth p.0
