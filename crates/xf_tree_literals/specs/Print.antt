-- Literal trees out of a forest: what may be printed, and the parts of trees on a stack.
use Rattle.std.specs.Prelude.{ℕ, ◌≡◌, ◌⊎◌, ◌≤◌, Bool, true, false, not, ◌||◌, List, [], ◌∷◌, ◌++◌, map, reverse, take, drop, length, nat_lt, codes, Option, Some, None, if◌then◌else◌}
use Rattle.std.specs.List.{list_any}
use Rattle.std.specs.Str.{bytes_eq}
use Rattle.slab.specs.Slab.{Slab}
use denote.Ref.{Bor}
use Rattle.xf_name.specs.declared.lit.Pair.{Pair}
use Rattle.xf_name.specs.declared.lit.Lit.{Lit}
use Rattle.xf_name.specs.declared.lit.Lit.TheVariants as lit
use Rattle.xf_name.specs.Bindings.{Bindings}
use Rattle.xf_def_forest.specs.declared.bare.Bare.{Bare}
use Rattle.xf_def_forest.specs.declared.bare.BareElement.{roll-BareElement}
use Rattle.xf_def_forest.specs.declared.bare.BareAttribute.{BareAttribute}
use Rattle.xf_def_forest.specs.declared.content.Node.{Node}
use Rattle.xf_def_forest.specs.declared.content.Content.{Content}
use Rattle.xf_def_forest.specs.declared.content.Content.TheVariants.{Root, Element, Attribute, Text}
use Rattle.xf_def_forest.specs.declared.bare.Bare.TheVariants as bare
use Rattle.xf_def_forest.specs.declared.content.Kind.TheVariants as kind
use Rattle.xf_def_forest.specs.Forest.{Forest, is_element, is_text, kind_at, written}
use Rattle.xf_def_forest.specs.Plant.{is_less}
use Rattle.xf_def_forest.specs.Literal.{Part, attribute_part, tree_part, attributes_in, trees_in, inner, outer}
use Rattle.xf_def_forest.specs.Printed.{pair, with_pair, with_pairs, with_default, in_force, element}
use Rattle.xf_tree_contents.specs.Slot.{Slot}
use Rattle.xf_tree_walks.specs.Nodes.{node_of}
use Rattle.xf_tree_literals.specs.declared.gather.Below.{Below}
use Rattle.xf_tree_literals.specs.declared.spaces.Line.{Line}
use Rattle.xf_tree_literals.specs.declared.gather.Below.TheVariants as below

-- an element or a text is printed
abbrev pub MayPrint : ℕ → Forest → Type 0
MayPrint n forest = (kind_at n forest.nodes ≡ Some kind.Element) ⊎ (kind_at n forest.nodes ≡ Some kind.Text)

-- the first of these nodes is one
abbrev pub is_printable : List Node → Bool
is_printable [] = false
is_printable (x ∷ xs) = is_element x.content || is_text x.content

abbrev pub IsPrintable : List Node → Type 0
IsPrintable nodes = is_printable nodes ≡ true

-- ---- parts on a stack

abbrev pub shown : {A T : Type 0} → Below A T → Part A T
shown (below.Attribute a) = attribute_part a
shown (below.Tree t) = tree_part t

-- the parts on a stack, the last one pushed first
abbrev pub stacked : {A T : Type 0} → List (ℕ × Below A T) → List (ℕ × Part A T)
stacked parts = map (λ p. (p.0, shown p.1)) (reverse parts)

abbrev pub begins_deeper : {P : Type 0} → ℕ → List (ℕ × P) → Bool
begins_deeper depth [] = false
begins_deeper depth (p ∷ ps) = nat_lt depth p.0

-- ---- parts of trees with resolved names

-- a node with these attributes and trees below it
abbrev pub bare_with : Content → List BareAttribute → List Bare → Part BareAttribute Bare
bare_with Root attributes children = tree_part (bare.Text [])
bare_with (Text text) attributes children = tree_part (bare.Text text)
bare_with (Attribute name text) attributes children = attribute_part (record { name = name.meaning; text = text })
bare_with (Element name) attributes children = tree_part (bare.Element (roll-BareElement (record { name = name.meaning; attributes = attributes; children = children })))

-- ---- what is printed

-- a depth below that of the node left out, where there is one
abbrev pub is_inside : Option ℕ → ℕ → Bool
is_inside None depth = false
is_inside (Some above) depth = nat_lt above depth

-- ---- pairs in their order

-- where pairs with this name go among others, of which the greatest is first, or None where one has it
abbrev pub IsPlace : List ℕ → List Pair → Option ℕ → Type 0
IsPlace name pairs None = (text : List ℕ) → with_pair (pair name text) (reverse pairs) ≡ reverse pairs
IsPlace name pairs (Some at) = (at ≤ length pairs) × ((text : List ℕ) → with_pair (pair name text) (reverse pairs) ≡ reverse (take at pairs ++ pair name text ∷ drop at pairs))

-- a name that is found among pairs in their order
abbrev pub IsFound : List ℕ → List Pair → Type 0
IsFound name [] = ⊥
IsFound name (q ∷ qs) = (bytes_eq name q.name ≡ true) ⊎ ((is_less name q.name ≡ false) × IsFound name qs)

-- all these prefixes are declared
abbrev pub AreDeclared : List (Bor (List ℕ)) → List Pair → Type 0
AreDeclared keys pairs = (prefix : List ℕ) → list_any (λ k. bytes_eq prefix k.now) keys ≡ true → IsFound (codes "xmlns:" ++ prefix) pairs

-- ---- namespaces in force

-- of the nodes around, the nearest first, those that a node of this depth is below
abbrev pub left_at : ℕ → List (ℕ × ℕ) → List (ℕ × ℕ)
left_at depth [] = []
left_at depth (p ∷ ps) = if nat_lt p.0 depth then p ∷ ps else left_at depth ps

abbrev pub begins_outside : ℕ → List (ℕ × ℕ) → Bool
begins_outside depth [] = false
begins_outside depth (p ∷ ps) = not (nat_lt p.0 depth)

-- the namespace in force below the nearest node
abbrev pub space_in : List (ℕ × ℕ) → ℕ
space_in [] = 0
space_in (p ∷ ps) = p.1

abbrev pub force_in : ℕ → Content → ℕ
force_in above (Element name) = in_force above name
force_in above content = above

-- nodes with the namespaces in force above them
abbrev pub with_spaces : List (ℕ × ℕ) → List Node → List (ℕ × Node)
with_spaces around [] = []
with_spaces around (x ∷ xs) =
    let rest = left_at x.depth around in
    (space_in rest, x) ∷ with_spaces ((x.depth, force_in (space_in rest) x.content) ∷ rest) xs

abbrev pub placed : Slab Slot → Line → ℕ × Node
placed slots l = (l.above, node_of slots l.row)

-- ---- parts of trees as they are printed

-- a node with these attributes and trees below it, and these declarations
abbrev pub lit_with : Bindings → ℕ → List Pair → Content → List Pair → List Lit → Part Pair Lit
lit_with b above declared Root attributes children = tree_part (lit.Text [])
lit_with b above declared (Text text) attributes children = tree_part (lit.Text text)
lit_with b above declared (Attribute name text) attributes children = attribute_part (pair (written name) text)
lit_with b above declared (Element name) attributes children = tree_part (element (written name) (with_default b above name (with_pairs attributes declared)) children)

abbrev pub lit_part : Bindings → ℕ → List Pair → Content → List (Part Pair Lit) → Part Pair Lit
lit_part b above declared content parts = lit_with b above declared content (attributes_in parts) (trees_in parts)

-- each node made a part, from the last one back, with no declarations of prefixes
abbrev pub lits_in : Bindings → List (ℕ × Node) → List (ℕ × Part Pair Lit)
lits_in b [] = []
lits_in b (l ∷ ls) = let after = lits_in b ls in (l.1.depth, lit_part b l.0 [] l.1.content (inner l.1.depth after)) ∷ outer l.1.depth after
