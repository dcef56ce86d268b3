-- Literal trees that come into a forest, as detached trees, and why they do not.
use Rattle.std.specs.Prelude.{ℕ, suc, ◌+◌, Bool, true, false, not, ◌||◌, List, [], ◌∷◌, ◌++◌, map, flat_map, length, Option, Some, None, is_none, Result, Err, ◌==◌, if◌then◌else◌}
use Rattle.std.specs.List.{list_any}
use Rattle.xf_name.specs.Bindings.{Bindings, space_number, space_of_prefix, text_of_space}
use Rattle.xf_name.specs.Part.{Kind, no_declaration, is_part, kind_of}
use Rattle.xf_name.specs.Written.{Written, elements_of}
use Rattle.xf_name.specs.Faults.{name_fault, has_double}
use Rattle.xf_name.specs.declared.lit.Lit.{Lit}
use Rattle.xf_name.specs.declared.qname.QName.{QName}
use Rattle.xf_name.specs.declared.fault.NameFault.{NameFault}
use Rattle.xf_name.specs.declared.fault.NameFault.TheVariants as name
use Rattle.xf_def_forest.specs.declared.bare.Bare.{Bare, fold-Bare}
use Rattle.xf_def_forest.specs.declared.bare.Bare.TheOpen.{Bare-F, BareElement-F}
use Rattle.xf_def_forest.specs.declared.bare.BareAttribute.{BareAttribute}
use Rattle.xf_def_forest.specs.declared.content.Content.{Content}
use Rattle.xf_def_forest.specs.declared.content.Content.TheVariants.{Element, Attribute}
use Rattle.xf_def_forest.specs.declared.fault.TreeFault.{TreeFault}
use Rattle.xf_def_forest.specs.declared.fault.TreeFault.TheVariants.{BadName, Prefix}
use Rattle.xf_def_forest.specs.Forest.{Forest, written}
use Rattle.xf_def_forest.specs.Limits.{Limits, passed_by_tree, unless}
use Rattle.xf_def_forest.specs.Plant.{Contents, name_for, in_order, at_depth, text_contents, contents_of, numbered_from}

-- ---- the faults of names

abbrev pub tree_fault : NameFault → TreeFault
tree_fault name.BadName = BadName
tree_fault fault = Prefix

-- a default namespace that the form does not have
abbrev pub is_unknown_space : Bindings → List ℕ → Bool
is_unknown_space b [] = false
is_unknown_space b (c ∷ cs) = is_none (space_number b (c ∷ cs))

abbrev pub fault_by : Option NameFault → Bool → Option TreeFault
fault_by (Some fault) unknown = Some (tree_fault fault)
fault_by None unknown = if unknown then Some Prefix else None

abbrev pub written_fault : Bindings → Written → Option TreeFault
written_fault b e = fault_by (name_fault b e.name e.attributes) (is_unknown_space b e.default)

abbrev pub or_later : Option TreeFault → Option TreeFault → Option TreeFault
or_later (Some fault) later = Some fault
or_later None later = later

abbrev pub first_fault : {X : Type 0} → (X → Option TreeFault) → List X → Option TreeFault
first_fault fault [] = None
first_fault fault (x ∷ xs) = or_later (fault x) (first_fault fault xs)

-- the fault of the first element that has one: of its names before its prefixes
abbrev pub lit_fault : Bindings → Lit → Option TreeFault
lit_fault b lit = first_fault (written_fault b) (elements_of lit)

-- ---- trees with resolved names

abbrev pub bare_attribute : Bindings → BareAttribute → Content
bare_attribute b a = Attribute (name_for b a.name) a.text

abbrev pub bare_contents : Bare-F Contents Contents → Contents
bare_contents (Bare-F.Text text) = text_contents text
bare_contents (Bare-F.Element contents) = contents

abbrev pub bare_element_contents : Bindings → BareElement-F Contents Contents → Contents
bare_element_contents b e = λ space depth.
    (depth, Element (name_for b e.name))
    ∷ at_depth (suc depth) (in_order (map (bare_attribute b) e.attributes))
    ++ flat_map (λ child. child space (suc depth)) e.children

abbrev pub contents_of_bare : Bindings → Bare → Contents
contents_of_bare b = fold-Bare Contents Contents bare_contents (bare_element_contents b)

-- the elements of a tree in document order, each with its attributes
abbrev pub Elements : Type 0
Elements = List (QName × List BareAttribute)

abbrev pub bare_elements : Bare-F Elements Elements → Elements
bare_elements (Bare-F.Text text) = []
bare_elements (Bare-F.Element elements) = elements

abbrev pub bare_element_elements : BareElement-F Elements Elements → Elements
bare_element_elements e = (e.name, e.attributes) ∷ flat_map (λ child. child) e.children

abbrev pub elements_of_bare : Bare → Elements
elements_of_bare = fold-Bare Elements Elements bare_elements bare_element_elements

abbrev pub is_space : Option ℕ → ℕ → Bool
is_space None space = false
is_space (Some bound) space = bound == space

abbrev pub is_bound : Bindings → QName → Bool
is_bound b name = is_space (space_of_prefix b name.prefix) name.space

-- without a prefix an element has no namespace or one of the form's, and an attribute has none
abbrev pub is_bound_element : Bindings → QName → Bool
is_bound_element b name = if name.prefix == 0 then (name.space == 0) || not (is_none (text_of_space b name.space)) else is_bound b name

abbrev pub is_bound_attribute : Bindings → QName → Bool
is_bound_attribute b name = if name.prefix == 0 then name.space == 0 else is_bound b name

abbrev pub is_declaration : Kind → Bool
is_declaration no_declaration = false
is_declaration kind = true

-- written out, the attribute would declare a namespace: such a name is that of no attribute
abbrev pub would_declare : Bindings → BareAttribute → Bool
would_declare b a = is_declaration (kind_of (written (name_for b a.name)))

abbrev pub has_bad_bare : Bindings → QName → List BareAttribute → Bool
has_bad_bare b name attributes =
    not (is_part name.local) || list_any (λ a. not (is_part a.name.local) || would_declare b a) attributes || has_double (map (λ a. (a.name.space, a.name.local)) attributes)

abbrev pub bare_fault : Bindings → QName × List BareAttribute → Option TreeFault
bare_fault b (name, attributes) =
    if has_bad_bare b name attributes then Some BadName
    else if not (is_bound_element b name) || list_any (λ a. not (is_bound_attribute b a.name)) attributes then Some Prefix
    else None

-- ---- into the forest

-- with these contents as a new detached tree behind all others; the number is that of its top
abbrev pub with_tree : Limits → List (ℕ × Content) → Forest → Result (ℕ × Forest) TreeFault
with_tree l contents forest =
    let tree = numbered_from forest.next contents in
    unless (passed_by_tree l tree (forest.nodes ++ tree)) (forest.next, record { nodes = forest.nodes ++ tree; next = forest.next + length contents })

abbrev pub unless_fault : Option TreeFault → Result (ℕ × Forest) TreeFault → Result (ℕ × Forest) TreeFault
unless_fault None planted = planted
unless_fault (Some fault) planted = Err fault

-- with a literal tree, where a name without a prefix has the given namespace
abbrev pub planted : Limits → Bindings → ℕ → Lit → Forest → Result (ℕ × Forest) TreeFault
planted l b space lit forest = unless_fault (lit_fault b lit) (with_tree l (contents_of b lit space 0) forest)

abbrev pub planted_bare : Limits → Bindings → Bare → Forest → Result (ℕ × Forest) TreeFault
planted_bare l b tree forest = unless_fault (first_fault (bare_fault b) (elements_of_bare tree)) (with_tree l (contents_of_bare b tree 0 0) forest)
