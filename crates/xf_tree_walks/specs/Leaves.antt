-- Attributes and texts have nothing below them: what stands after one is not deeper (XPath 1.0, section 5).
use Rattle.std.specs.Prelude.{ℕ, ◌≡◌, ◌≤◌, Bool, true, false, List, [], ◌∷◌, map}
use Rattle.xf_def_forest.specs.declared.content.Node.{Node}
use Rattle.xf_def_forest.specs.declared.content.Content.{Content}
use Rattle.xf_def_forest.specs.declared.content.Content.TheVariants.{Attribute, Text}

abbrev pub is_leaf : Content → Bool
is_leaf (Attribute name text) = true
is_leaf (Text text) = true
is_leaf content = false

-- the contents of nodes with their depths
abbrev pub parts_in : List Node → List (ℕ × Content)
parts_in nodes = map (λ x. (x.depth, x.content)) nodes

-- the first of these, where there is one, is no deeper than this
abbrev pub NotDeeper : ℕ → List (ℕ × Content) → Type 0
NotDeeper depth [] = Unit {0}
NotDeeper depth (p ∷ ps) = p.0 ≤ depth

-- no leaf among these has anything below it
abbrev pub AreLeaves : List (ℕ × Content) → Type 0
AreLeaves [] = Unit {0}
AreLeaves (p ∷ ps) = (is_leaf p.1 ≡ true → NotDeeper p.0 ps) × AreLeaves ps
