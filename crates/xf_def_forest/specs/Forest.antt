-- The document model (XPath 1.0, section 5): a forest is the list of its nodes in document order, each with its number and with how
-- many nodes are above it. The instances' trees come first, each under its root; the detached trees follow, in the order of detachment.
use Rattle.std.specs.Prelude.{ℕ, ◌≡◌, Bool, true, false, List, [], ◌∷◌, ◌++◌, find, Option, Some, None, option_map, option_and_then, nat_lt, ◌==◌, if◌then◌else◌}
use Rattle.std.specs.List.{list_any}
use Rattle.xf_name.specs.declared.qname.QName.{QName}
use Rattle.xf_def_forest.specs.declared.content.Node.{Node}
use Rattle.xf_def_forest.specs.declared.content.Name.{Name}
use Rattle.xf_def_forest.specs.declared.content.Content.{Content}
use Rattle.xf_def_forest.specs.declared.content.Content.TheVariants.{Root, Element, Attribute, Text}
use Rattle.xf_def_forest.specs.declared.content.Kind.{Kind}
use Rattle.xf_def_forest.specs.declared.content.Kind.TheVariants as kind

pub record Forest : Type 0 where
  pub nodes : List Node
  -- the number that the next new node takes
  pub next : ℕ

abbrev pub empty : Forest
empty = record { nodes = []; next = 0 }

-- ---- what a node is

abbrev pub kind_of : Content → Kind
kind_of Root = kind.Root
kind_of (Element name) = kind.Element
kind_of (Attribute name text) = kind.Attribute
kind_of (Text text) = kind.Text

abbrev pub is_root : Content → Bool
is_root Root = true
is_root content = false

abbrev pub is_element : Content → Bool
is_element (Element name) = true
is_element content = false

abbrev pub is_attribute : Content → Bool
is_attribute (Attribute name text) = true
is_attribute content = false

abbrev pub is_text : Content → Bool
is_text (Text text) = true
is_text content = false

abbrev pub name_in : Content → Option Name
name_in (Element name) = Some name
name_in (Attribute name text) = Some name
name_in content = None

-- the text that a node has itself: an attribute's value, or the characters of a text
abbrev pub own_text : Content → List ℕ
own_text (Attribute name text) = text
own_text (Text text) = text
own_text content = []

-- a name as it is written: its prefix and a colon, where it has a prefix, and its local part
abbrev pub written_with : List ℕ → List ℕ → List ℕ
written_with [] local = local
written_with (c ∷ cs) local = (c ∷ cs) ++ 58 ∷ local

abbrev pub written : Name → List ℕ
written name = written_with name.prefix name.meaning.local

abbrev pub written_in : Option Name → List ℕ
written_in None = []
written_in (Some name) = written name

-- ---- where a node stands

abbrev pub has_number : ℕ → List Node → Bool
has_number n nodes = list_any (λ x. x.number == n) nodes

-- a node with this number stands in the forest
abbrev pub IsLive : ℕ → Forest → Type 0
IsLive n forest = has_number n forest.nodes ≡ true

abbrev pub node_at : ℕ → List Node → Option Node
node_at n nodes = find (λ x. x.number == n) nodes

abbrev pub content_at : ℕ → List Node → Option Content
content_at n nodes = option_map (λ x. x.content) (node_at n nodes)

abbrev pub kind_at : ℕ → List Node → Option Kind
kind_at n nodes = option_map kind_of (content_at n nodes)

-- the name of an element or attribute, as it is resolved
abbrev pub name_at : ℕ → List Node → Option QName
name_at n nodes = option_map (λ name. name.meaning) (option_and_then name_in (content_at n nodes))

-- the nodes from the one with this number on
abbrev pub from_node : ℕ → List Node → List Node
from_node n [] = []
from_node n (x ∷ xs) = if x.number == n then x ∷ xs else from_node n xs

-- of the nodes after one of this depth, those below it: they are deeper
abbrev pub below : ℕ → List Node → List Node
below depth [] = []
below depth (y ∷ ys) = if nat_lt depth y.depth then y ∷ below depth ys else []

-- and those past them
abbrev pub past : ℕ → List Node → List Node
past depth [] = []
past depth (y ∷ ys) = if nat_lt depth y.depth then past depth ys else y ∷ ys

-- the tree of the first node: it and what is below it
abbrev pub first_tree : List Node → List Node
first_tree [] = []
first_tree (x ∷ xs) = x ∷ below x.depth xs

-- the tree of the node with this number
abbrev pub tree_of : ℕ → List Node → List Node
tree_of n nodes = first_tree (from_node n nodes)
