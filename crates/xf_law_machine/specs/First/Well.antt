-- A tree of elements, attributes and texts, as a form's documents have them: its names are those that the prefixes of the form give, the attributes
-- of an element stand in the order of their written names, and no text is empty. Its bare tree gives the same contents.
use Rattle.std.specs.Prelude.{ℕ, suc, ◌≡◌, ◌⊎◌, true, false, List, [], ◌∷◌, Some, nat_le}
use Rattle.xf_name.specs.Bindings.{Bindings}
use Rattle.xf_def_forest.specs.declared.bare.Bare.{Bare}
use Rattle.xf_def_forest.specs.declared.content.Content.{Content}
use Rattle.xf_def_forest.specs.declared.content.Content.TheVariants.{Root, Element, Attribute, Text}
use Rattle.xf_def_forest.specs.declared.content.Node.{Node}
use Rattle.xf_def_forest.specs.Changes.{contents_in}
use Rattle.xf_def_forest.specs.Forest.{is_attribute, is_element, tree_of}
use Rattle.xf_def_forest.specs.Literal.{bare_of}
use Rattle.xf_def_forest.specs.Plant.{is_less, name_for, written_of}
use Rattle.xf_def_forest.specs.Planted.{contents_of_bare}
use Rattle.xf_def_forest.specs.WellFormed.{reach}

-- no root and no empty text, and its name has the prefix that stands in the form
abbrev pub IsWell : Bindings → Content → Type 0
IsWell b Root = ⊥
IsWell b (Element name) = name ≡ name_for b name.meaning
IsWell b (Attribute name text) = name ≡ name_for b name.meaning
IsWell b (Text []) = ⊥
IsWell b (Text (c ∷ cs)) = Unit {0}

-- an attribute stands right after its element, or after another attribute of it whose written name is not greater
abbrev pub Bears : Node → Node → Type 0
Bears x y =
    ((is_element x.content ≡ true) × (y.depth ≡ suc x.depth))
    ⊎ ((is_attribute x.content ≡ true) × (y.depth ≡ x.depth) × (is_less (written_of y.content) (written_of x.content) ≡ false))

-- the first of these may stand after the node
abbrev pub Follows : Node → List Node → Type 0
Follows x [] = Unit {0}
Follows x (y ∷ ys) = (nat_le y.depth (reach x) ≡ true) × (is_attribute y.content ≡ true → Bears x y)

-- of nodes that are so deep at least
abbrev pub AreWell : Bindings → ℕ → List Node → Type 0
AreWell b k [] = Unit {0}
AreWell b k (x ∷ xs) = IsWell b x.content × (nat_le k x.depth ≡ true) × Follows x xs × AreWell b k xs

abbrev pub depth_of : List Node → ℕ
depth_of [] = 0
depth_of (x ∷ xs) = x.depth

-- the bare tree of such a tree gives its contents
abbrev pub BareGives : Type 0
BareGives = (b : Bindings) (n : ℕ) (nodes : List Node) (t : Bare) → AreWell b (depth_of (tree_of n nodes)) (tree_of n nodes) → bare_of n nodes ≡ Some t →
    contents_of_bare b t 0 0 ≡ contents_in (tree_of n nodes)
