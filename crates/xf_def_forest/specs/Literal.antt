-- The literal tree of a node, as it is printed (Namespaces in XML 1.0, section 6) or stored with resolved names.
use Rattle.std.specs.Prelude.{ℕ, Bool, ◌||◌, List, [], ◌∷◌, Option, Some, None, nat_lt, if◌then◌else◌}
use Rattle.xf_def_forest.specs.declared.bare.Bare.{Bare}
use Rattle.xf_def_forest.specs.declared.bare.Bare.TheVariants as bare
use Rattle.xf_def_forest.specs.declared.bare.BareElement.{roll-BareElement}
use Rattle.xf_def_forest.specs.declared.bare.BareAttribute.{BareAttribute}
use Rattle.xf_def_forest.specs.declared.content.Node.{Node}
use Rattle.xf_def_forest.specs.declared.content.Content.{Content}
use Rattle.xf_def_forest.specs.declared.content.Content.TheVariants.{Root, Element, Attribute, Text}
use Rattle.xf_def_forest.specs.Forest.{is_text, tree_of}
use Rattle.xf_def_forest.specs.Visit.{has}

-- ---- which nodes are printed

-- below a node that is left out nothing is printed; a text goes with its element
abbrev pub is_kept : List ℕ → Node → Bool
is_kept kept x = is_text x.content || has x.number kept

-- of the nodes after a top, those that are printed; the depth is that of the node left out around them, where there is one
abbrev pub printed_from : List ℕ → Option ℕ → List Node → List Node
printed_from kept out [] = []
printed_from kept None (x ∷ xs) = if is_kept kept x then x ∷ printed_from kept None xs else printed_from kept (Some x.depth) xs
printed_from kept (Some depth) (x ∷ xs) =
    if nat_lt depth x.depth then printed_from kept (Some depth) xs
    else if is_kept kept x then x ∷ printed_from kept None xs
    else printed_from kept (Some x.depth) xs

-- the top is printed whether it is kept or not
abbrev pub printed : List ℕ → List Node → List Node
printed kept [] = []
printed kept (x ∷ xs) = x ∷ printed_from kept None xs

-- ---- trees out of a list with depths

-- what a node is in a literal tree of one kind: an attribute, or a tree from what is around it
pub data Part (A T : Type 0) : Type 0 where
  attribute_part : A → Part A T
  tree_part : T → Part A T

abbrev pub attributes_in : {A T : Type 0} → List (Part A T) → List A
attributes_in [] = []
attributes_in (attribute_part a ∷ ps) = a ∷ attributes_in ps
attributes_in (tree_part t ∷ ps) = attributes_in ps

abbrev pub trees_in : {A T : Type 0} → List (Part A T) → List T
trees_in [] = []
trees_in (attribute_part a ∷ ps) = trees_in ps
trees_in (tree_part t ∷ ps) = t ∷ trees_in ps

-- the parts at the front that are deeper, and those past them
abbrev pub inner : {P : Type 0} → ℕ → List (ℕ × P) → List P
inner depth [] = []
inner depth (p ∷ ps) = if nat_lt depth p.0 then p.1 ∷ inner depth ps else []

abbrev pub outer : {P : Type 0} → ℕ → List (ℕ × P) → List (ℕ × P)
outer depth [] = []
outer depth (p ∷ ps) = if nat_lt depth p.0 then outer depth ps else p ∷ ps

-- each node made a part with the parts below it, from the last node on
abbrev pub gathered : {P : Type 0} → (Content → List P → P) → List Node → List (ℕ × P)
gathered part [] = []
gathered part (x ∷ xs) = let after = gathered part xs in (x.depth, part x.content (inner x.depth after)) ∷ outer x.depth after

-- the tree that the first node came to
abbrev pub first_tree_in : {A T : Type 0} → List (ℕ × Part A T) → Option T
first_tree_in [] = None
first_tree_in ((depth, attribute_part a) ∷ ps) = None
first_tree_in ((depth, tree_part t) ∷ ps) = Some t

-- ---- with resolved names

abbrev pub bare_part : Content → List (Part BareAttribute Bare) → Part BareAttribute Bare
bare_part Root parts = tree_part (bare.Text [])
bare_part (Text text) parts = tree_part (bare.Text text)
bare_part (Attribute name text) parts = attribute_part (record { name = name.meaning; text = text })
bare_part (Element name) parts = tree_part (bare.Element (roll-BareElement (record { name = name.meaning; attributes = attributes_in parts; children = trees_in parts })))

-- the tree of an element or text, with resolved names
abbrev pub bare_of : ℕ → List Node → Option Bare
bare_of n nodes = first_tree_in (gathered bare_part (tree_of n nodes))
