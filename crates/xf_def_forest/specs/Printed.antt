-- The literal tree of a node as it is printed: names as they are written, with the declarations that they need (Namespaces in XML 1.0,
-- sections 3 and 6).
use Rattle.std.specs.Prelude.{ℕ, Bool, true, false, ◌||◌, List, [], ◌∷◌, ◌++◌, map, Option, Some, None, unwrap_or, ◌==◌, codes, if◌then◌else◌}
use Rattle.std.specs.Str.{bytes_eq}
use Rattle.xf_name.specs.Bindings.{Bindings, text_of_space, xml_prefix}
use Rattle.xf_name.specs.declared.lit.Pair.{Pair}
use Rattle.xf_name.specs.declared.lit.Lit.{Lit}
use Rattle.xf_name.specs.declared.lit.Lit.TheVariants as lit
use Rattle.xf_name.specs.declared.lit.LitElement.{roll-LitElement}
use Rattle.xf_def_forest.specs.declared.content.Node.{Node}
use Rattle.xf_def_forest.specs.declared.content.Name.{Name}
use Rattle.xf_def_forest.specs.declared.content.Content.{Content}
use Rattle.xf_def_forest.specs.declared.content.Content.TheVariants.{Root, Element, Attribute, Text}
use Rattle.xf_def_forest.specs.Forest.{written, name_in, tree_of}
use Rattle.xf_def_forest.specs.Plant.{is_less}
use Rattle.xf_def_forest.specs.Literal.{Part, attribute_part, tree_part, attributes_in, trees_in, gathered, printed, first_tree_in}

-- a tree from the namespace in force above it and the declarations that its top carries
abbrev pub Printing : Type 0
Printing = ℕ → List Pair → Lit

abbrev pub pair : List ℕ → List ℕ → Pair
pair name text = record { name = name; text = text }

abbrev pub space_text : Bindings → ℕ → List ℕ
space_text b space = unwrap_or (text_of_space b space) []

-- ---- declarations

-- pairs in the order of the bytes of their names, each name once
abbrev pub with_pair : Pair → List Pair → List Pair
with_pair p [] = p ∷ []
with_pair p (q ∷ qs) =
    if bytes_eq p.name q.name then q ∷ qs
    else if is_less p.name q.name then p ∷ q ∷ qs
    else q ∷ with_pair p qs

abbrev pub with_pairs : List Pair → List Pair → List Pair
with_pairs [] qs = qs
with_pairs (p ∷ ps) qs = with_pair p (with_pairs ps qs)

-- the declaration of a prefix; `xml` needs none
abbrev pub with_prefix : Bindings → List ℕ → ℕ → List Pair → List Pair
with_prefix b [] space ps = ps
with_prefix b (c ∷ cs) space ps = if bytes_eq (c ∷ cs) xml_prefix then ps else with_pair (pair (codes "xmlns:" ++ (c ∷ cs)) (space_text b space)) ps

abbrev pub with_prefix_in : Bindings → Option Name → List Pair → List Pair
with_prefix_in b None ps = ps
with_prefix_in b (Some name) ps = with_prefix b name.prefix name.meaning.space ps

-- the declarations of all prefixes that nodes use
abbrev pub prefixes_in : Bindings → List Node → List Pair
prefixes_in b [] = []
prefixes_in b (x ∷ xs) = with_prefix_in b (name_in x.content) (prefixes_in b xs)

abbrev pub has_prefix : List ℕ → Bool
has_prefix [] = false
has_prefix (c ∷ cs) = true

-- an element without a prefix declares its namespace where another one is in force above it
abbrev pub with_default : Bindings → ℕ → Name → List Pair → List Pair
with_default b above name ps =
    if has_prefix name.prefix || (above == name.meaning.space) then ps else with_pair (pair (codes "xmlns") (space_text b name.meaning.space)) ps

-- the namespace in force below it
abbrev pub in_force : ℕ → Name → ℕ
in_force above name = if has_prefix name.prefix then above else name.meaning.space

-- ---- the tree

abbrev pub element : List ℕ → List Pair → List Lit → Lit
element name attributes children = lit.Element (roll-LitElement (record { name = name; attributes = attributes; children = children }))

-- below the top no more prefixes are declared
abbrev pub inside : ℕ → Printing → Lit
inside space tree = tree space []

abbrev pub printing : Bindings → Content → List (Part Pair Printing) → Part Pair Printing
printing b Root parts = tree_part (λ above declared. lit.Text [])
printing b (Text text) parts = tree_part (λ above declared. lit.Text text)
printing b (Attribute name text) parts = attribute_part (pair (written name) text)
printing b (Element name) parts = tree_part (λ above declared.
    element (written name) (with_default b above name (with_pairs (attributes_in parts) declared)) (map (inside (in_force above name)) (trees_in parts)))

abbrev pub printed_as : Bindings → List Node → Option Printing → Option Lit
printed_as b nodes None = None
printed_as b nodes (Some tree) = Some (tree 0 (prefixes_in b nodes))

-- the tree of an element or text with the nodes below it that are kept; its top declares each prefix that is used in it
abbrev pub lit_of : Bindings → List ℕ → ℕ → List Node → Option Lit
lit_of b kept n nodes =
    let left = printed kept (tree_of n nodes) in
    printed_as b left (first_tree_in (gathered (printing b) left))
