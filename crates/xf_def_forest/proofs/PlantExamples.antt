-- Literal trees planted, and nodes printed again: names, declarations, and what is refused.
use Rattle.std.proofs.Common.{◌≡◌, [], ◌∷◌, Some, None, Ok, Err, Option, refl}
use Rattle.std.specs.Prelude.{ℕ, List, codes}
use Rattle.std.specs.Str.{chars}
use Rattle.ucd_table.specs.Rows.{in_ranges}
use Rattle.ucd_derived.specs.Binary.{is_xid_start, is_xid_continue}
use Rattle.ucd_derived.specs.XidStartRanges.{xid_start_ranges}
use Rattle.ucd_derived.specs.XidContinueRanges.{xid_continue_ranges}
use Rattle.xf_name.specs.declared.lit.Pair.{Pair}
use Rattle.xf_name.specs.declared.lit.Lit.TheOpen.{Lit-F}
use Rattle.xf_def_forest.specs.declared.content.Content.TheVariants.{Element, Attribute, Text}
use Rattle.xf_def_forest.specs.declared.bare.BareAttribute.{BareAttribute}
use Rattle.xf_def_forest.specs.declared.fault.TreeFault.{TreeFault}
use Rattle.xf_def_forest.specs.declared.fault.TreeFault.TheVariants.{BadName, Prefix, Nodes, NodeText, AllText, Depth}
use Rattle.xf_def_forest.specs.Forest.{empty}
use Rattle.xf_def_forest.specs.Limits.{Limits}
use Rattle.xf_def_forest.specs.Plant.{Contents, lit_contents, element_contents}
use Rattle.xf_def_forest.specs.Planted.{written_fault, first_fault, bare_fault, bare_element_contents, with_tree}
use Rattle.xf_def_forest.specs.Printed.{pair}
use Rattle.xf_def_forest.specs.Examples.{bindings, wide, node, attribute, text, plain, of_p, qname}

-- ---- contents of trees, one level at a time

abbrev lit_element : List ℕ → List Pair → List Contents → Contents
lit_element name attributes children = element_contents bindings (record { name = name; attributes = attributes; children = children })

abbrev lit_text : List ℕ → Contents
lit_text cs = lit_contents (Lit-F.Text cs)

a_prefix_is_resolved : lit_element (codes "p:e") [] (lit_text (codes "q") ∷ []) 0 0 ≡ (0, Element (of_p (codes "e"))) ∷ (1, Text (codes "q")) ∷ []
unfolding chars is_xid_start is_xid_continue in_ranges xid_start_ranges xid_continue_ranges
a_prefix_is_resolved = refl

declarations_are_no_nodes : lit_element (codes "p:e") (pair (codes "xmlns:p") (codes "urn:p") ∷ []) [] 0 0 ≡ (0, Element (of_p (codes "e"))) ∷ []
unfolding chars is_xid_start is_xid_continue in_ranges xid_start_ranges xid_continue_ranges
declarations_are_no_nodes = refl

attributes_stand_in_order : lit_element (codes "a") (pair (codes "p:b") [] ∷ pair (codes "no") (codes "7") ∷ pair (codes "k") (codes "x") ∷ []) [] 0 0
    ≡ (0, Element (plain (codes "a"))) ∷ (1, Attribute (plain (codes "k")) (codes "x")) ∷ (1, Attribute (plain (codes "no")) (codes "7")) ∷ (1, Attribute (of_p (codes "b")) []) ∷ []
unfolding chars is_xid_start is_xid_continue in_ranges xid_start_ranges xid_continue_ranges
attributes_stand_in_order = refl

a_default_namespace_is_that_of_elements : lit_element (codes "a") (pair (codes "k") [] ∷ pair (codes "xmlns") (codes "urn:q") ∷ []) (lit_element (codes "b") [] [] ∷ []) 0 0
    ≡ (0, Element (record { meaning = qname 2 0 (codes "a"); prefix = [] })) ∷ (1, Attribute (plain (codes "k")) []) ∷ (1, Element (record { meaning = qname 2 0 (codes "b"); prefix = [] })) ∷ []
unfolding chars is_xid_start is_xid_continue in_ranges xid_start_ranges xid_continue_ranges
a_default_namespace_is_that_of_elements = refl

-- the one that is in force above reaches what has no prefix, and one declared beside a prefix what is below it
a_default_is_in_force_below : lit_element (codes "a") [] (lit_element (codes "p:b") (pair (codes "xmlns") (codes "urn:p") ∷ []) (lit_element (codes "c") [] [] ∷ []) ∷ []) 2 0
    ≡ (0, Element (record { meaning = qname 2 0 (codes "a"); prefix = [] })) ∷ (1, Element (of_p (codes "b"))) ∷ (2, Element (record { meaning = qname 1 0 (codes "c"); prefix = [] })) ∷ []
unfolding chars is_xid_start is_xid_continue in_ranges xid_start_ranges xid_continue_ranges
a_default_is_in_force_below = refl

an_empty_default_is_none : lit_element (codes "a") (pair (codes "xmlns") [] ∷ []) [] 2 0 ≡ (0, Element (plain (codes "a"))) ∷ []
unfolding chars is_xid_start is_xid_continue in_ranges xid_start_ranges xid_continue_ranges
an_empty_default_is_none = refl

neighbouring_texts_stay_two : lit_element (codes "a") [] (lit_text (codes "x") ∷ lit_text (codes "y") ∷ []) 0 0 ≡ (0, Element (plain (codes "a"))) ∷ (1, Text (codes "x")) ∷ (1, Text (codes "y")) ∷ []
unfolding chars is_xid_start is_xid_continue in_ranges xid_start_ranges xid_continue_ranges
neighbouring_texts_stay_two = refl

empty_texts_are_none : lit_element (codes "a") [] (lit_text [] ∷ []) 0 0 ≡ (0, Element (plain (codes "a"))) ∷ []
unfolding chars is_xid_start is_xid_continue in_ranges xid_start_ranges xid_continue_ranges
empty_texts_are_none = refl

xml_is_known : lit_element (codes "a") (pair (codes "xml:lang") (codes "en") ∷ []) [] 0 0
    ≡ (0, Element (plain (codes "a"))) ∷ (1, Attribute (record { meaning = qname 65535 65535 (codes "lang"); prefix = codes "xml" }) (codes "en")) ∷ []
unfolding chars is_xid_start is_xid_continue in_ranges xid_start_ranges xid_continue_ranges
xml_is_known = refl

a_bare_tree_is_put_in_order : bare_element_contents bindings (record { name = qname 1 1 (codes "e"); attributes = record { name = qname 0 0 (codes "b"); text = [] } ∷ record { name = qname 0 0 (codes "a"); text = [] } ∷ []; children = [] }) 0 0
    ≡ (0, Element (of_p (codes "e"))) ∷ (1, Attribute (plain (codes "a")) []) ∷ (1, Attribute (plain (codes "b")) []) ∷ []
unfolding chars is_xid_start is_xid_continue in_ranges xid_start_ranges xid_continue_ranges
a_bare_tree_is_put_in_order = refl

-- ---- into the forest

numbers_are_taken_in_preorder : with_tree wide (lit_element (codes "p:e") (pair (codes "k") (codes "x") ∷ []) (lit_text (codes "q") ∷ []) 0 0) (record empty { next = 7 })
    ≡ Ok (7, record { nodes = node 7 0 (Element (of_p (codes "e"))) ∷ attribute 8 1 (codes "k") (codes "x") ∷ text 9 1 (codes "q") ∷ []; next = 10 })
unfolding chars is_xid_start is_xid_continue in_ranges xid_start_ranges xid_continue_ranges
numbers_are_taken_in_preorder = refl

-- p e k x q, 3 nodes and 5 bytes, 1 element deep
abbrev tight : Limits
tight = record { nodes = 3; text = 1; all = 5; depth = 1 }

abbrev small : Contents
small = lit_element (codes "p:e") (pair (codes "k") (codes "x") ∷ []) (lit_text (codes "q") ∷ [])

the_limits_are_met : with_tree tight (small 0 0) empty ≡ with_tree wide (small 0 0) empty
unfolding chars is_xid_start is_xid_continue in_ranges xid_start_ranges xid_continue_ranges
the_limits_are_met = refl

too_many_nodes : with_tree (record tight { nodes = 2; text = 0; all = 0; depth = 0 }) (small 0 0) empty ≡ Err Nodes
unfolding chars is_xid_start is_xid_continue in_ranges xid_start_ranges xid_continue_ranges
too_many_nodes = refl

too_long_a_text : with_tree (record tight { text = 0; all = 0; depth = 0 }) (small 0 0) empty ≡ Err NodeText
unfolding chars is_xid_start is_xid_continue in_ranges xid_start_ranges xid_continue_ranges
too_long_a_text = refl

too_many_bytes : with_tree (record tight { all = 4; depth = 0 }) (small 0 0) empty ≡ Err AllText
unfolding chars is_xid_start is_xid_continue in_ranges xid_start_ranges xid_continue_ranges
too_many_bytes = refl

too_deep : with_tree (record tight { depth = 0 }) (small 0 0) empty ≡ Err Depth
unfolding chars is_xid_start is_xid_continue in_ranges xid_start_ranges xid_continue_ranges
too_deep = refl

-- ---- names that are refused

abbrev fault_at : List ℕ → List Pair → List ℕ → Option TreeFault
fault_at name attributes default = written_fault bindings (record { name = name; attributes = attributes; default = default; depth = 0 })

a_form_without_the_prefix : fault_at (codes "q:a") [] [] ≡ Some Prefix
unfolding chars is_xid_start is_xid_continue in_ranges xid_start_ranges xid_continue_ranges
a_form_without_the_prefix = refl

a_prefix_bound_otherwise : fault_at (codes "a") (pair (codes "xmlns:p") (codes "urn:q") ∷ []) [] ≡ Some Prefix
unfolding chars is_xid_start is_xid_continue in_ranges xid_start_ranges xid_continue_ranges
a_prefix_bound_otherwise = refl

a_prefix_bound_again : fault_at (codes "a") (pair (codes "xmlns:p") (codes "urn:p") ∷ []) [] ≡ None
unfolding chars is_xid_start is_xid_continue in_ranges xid_start_ranges xid_continue_ranges
a_prefix_bound_again = refl

an_unknown_default : fault_at (codes "a") [] (codes "urn:r") ≡ Some Prefix
unfolding chars is_xid_start is_xid_continue in_ranges xid_start_ranges xid_continue_ranges
an_unknown_default = refl

a_known_default : fault_at (codes "a") [] (codes "urn:q") ≡ None
unfolding chars is_xid_start is_xid_continue in_ranges xid_start_ranges xid_continue_ranges
a_known_default = refl

a_bad_name_comes_before_a_prefix : fault_at (codes "q:a") (pair (codes "1") [] ∷ []) [] ≡ Some BadName
unfolding chars is_xid_start is_xid_continue in_ranges xid_start_ranges xid_continue_ranges
a_bad_name_comes_before_a_prefix = refl

the_first_element_comes_first : first_fault (written_fault bindings) (record { name = codes "q:a"; attributes = []; default = []; depth = 0 } ∷ record { name = codes "1"; attributes = []; default = []; depth = 1 } ∷ []) ≡ Some Prefix
unfolding chars is_xid_start is_xid_continue in_ranges xid_start_ranges xid_continue_ranges
the_first_element_comes_first = refl

abbrev bare_at : ℕ → ℕ → List BareAttribute → Option TreeFault
bare_at space prefix attributes = bare_fault bindings (qname space prefix (codes "a"), attributes)

a_bare_prefix_bound_otherwise : bare_at 2 1 [] ≡ Some Prefix
unfolding chars is_xid_start is_xid_continue in_ranges xid_start_ranges xid_continue_ranges
a_bare_prefix_bound_otherwise = refl

a_bare_default_of_the_form : bare_at 2 0 [] ≡ None
unfolding chars is_xid_start is_xid_continue in_ranges xid_start_ranges xid_continue_ranges
a_bare_default_of_the_form = refl

a_bare_default_unknown : bare_at 3 0 [] ≡ Some Prefix
unfolding chars is_xid_start is_xid_continue in_ranges xid_start_ranges xid_continue_ranges
a_bare_default_unknown = refl

a_bare_attribute_in_no_namespace : bare_at 0 0 (record { name = qname 2 0 (codes "k"); text = [] } ∷ []) ≡ Some Prefix
unfolding chars is_xid_start is_xid_continue in_ranges xid_start_ranges xid_continue_ranges
a_bare_attribute_in_no_namespace = refl

a_double_bare_attribute : bare_at 3 0 (record { name = qname 0 0 (codes "k"); text = [] } ∷ record { name = qname 0 0 (codes "k"); text = codes "x" } ∷ []) ≡ Some BadName
unfolding chars is_xid_start is_xid_continue in_ranges xid_start_ranges xid_continue_ranges
a_double_bare_attribute = refl

-- such an attribute would be printed as a declaration
a_bare_attribute_that_would_declare : bare_at 0 0 (record { name = qname 0 0 (codes "xmlns"); text = codes "urn:q" } ∷ []) ≡ Some BadName
unfolding chars is_xid_start is_xid_continue in_ranges xid_start_ranges xid_continue_ranges
a_bare_attribute_that_would_declare = refl
