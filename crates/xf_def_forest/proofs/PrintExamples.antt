-- Nodes printed as literal trees.
use Rattle.std.proofs.Common.{◌≡◌, [], ◌∷◌, Some, None, refl}
use Rattle.std.specs.Prelude.{ℕ, List, codes}
use Rattle.xf_name.specs.declared.lit.Lit.TheVariants as lit
use Rattle.xf_def_forest.specs.declared.content.Node.{Node}
use Rattle.xf_def_forest.specs.declared.content.Content.TheVariants.{Element, Attribute}
use Rattle.xf_def_forest.specs.declared.bare.Bare.TheVariants as bare
use Rattle.xf_def_forest.specs.declared.bare.BareElement.{roll-BareElement}
use Rattle.xf_def_forest.specs.Forest.{tree_of}
use Rattle.xf_def_forest.specs.Visit.{numbers}
use Rattle.xf_def_forest.specs.Literal.{printed, bare_of}
use Rattle.xf_def_forest.specs.Printed.{pair, lit_of, element as tree}
use Rattle.xf_def_forest.specs.Examples.{rows, bindings, node, element, attribute, text, of_p, qname}

-- ---- which nodes are printed

a_text_goes_with_its_element : numbers (printed (4 ∷ 7 ∷ []) (tree_of 2 rows.nodes)) ≡ 2 ∷ 4 ∷ 5 ∷ []
a_text_goes_with_its_element = refl

what_is_below_goes_too : numbers (printed (2 ∷ 7 ∷ 10 ∷ []) (tree_of 1 rows.nodes)) ≡ 1 ∷ 2 ∷ 5 ∷ []
what_is_below_goes_too = refl

-- ---- declarations

-- ["p:d",{"xmlns:p":"urn:p"},["p:a","1"]]
abbrev prefixed : List Node
prefixed = node 0 0 (Element (of_p (codes "d"))) ∷ node 1 1 (Element (of_p (codes "a"))) ∷ text 2 2 (codes "1") ∷ []

the_top_declares_a_prefix_once : lit_of bindings (1 ∷ []) 0 prefixed ≡ Some (tree (codes "p:d") (pair (codes "xmlns:p") (codes "urn:p") ∷ []) (tree (codes "p:a") [] (lit.Text (codes "1") ∷ []) ∷ []))
the_top_declares_a_prefix_once = refl

a_prefix_of_a_node_left_out_is_not_declared : lit_of bindings [] 0 (element 0 0 (codes "d") ∷ node 1 1 (Element (of_p (codes "a"))) ∷ []) ≡ Some (tree (codes "d") [] [])
a_prefix_of_a_node_left_out_is_not_declared = refl

xml_is_not_declared : lit_of bindings (1 ∷ []) 0 (element 0 0 (codes "d") ∷ node 1 1 (Attribute (record { meaning = qname 65535 65535 (codes "lang"); prefix = codes "xml" }) (codes "en")) ∷ []) ≡ Some (tree (codes "d") (pair (codes "xml:lang") (codes "en") ∷ []) [])
xml_is_not_declared = refl

-- an element of urn:q, in it a prefixed one, in that one of urn:q, in that one of none
abbrev in_q : ℕ → ℕ → List ℕ → Node
in_q number depth local = node number depth (Element (record { meaning = qname 2 0 local; prefix = [] }))

abbrev defaults : List Node
defaults = in_q 0 0 (codes "a") ∷ node 1 1 (Element (of_p (codes "b"))) ∷ in_q 2 2 (codes "c") ∷ element 3 3 (codes "e") ∷ []

a_default_is_declared_where_it_changes : lit_of bindings (1 ∷ 2 ∷ 3 ∷ []) 0 defaults
    ≡ Some (tree (codes "a") (pair (codes "xmlns") (codes "urn:q") ∷ pair (codes "xmlns:p") (codes "urn:p") ∷ [])
    (tree (codes "p:b") [] (tree (codes "c") [] (tree (codes "e") (pair (codes "xmlns") [] ∷ []) [] ∷ []) ∷ []) ∷ []))
a_default_is_declared_where_it_changes = refl

declarations_and_attributes_are_in_one_order : lit_of bindings (1 ∷ 2 ∷ []) 0 (node 0 0 (Element (of_p (codes "d"))) ∷ attribute 1 1 (codes "as") (codes "1") ∷ attribute 2 1 (codes "z") [] ∷ [])
    ≡ Some (tree (codes "p:d") (pair (codes "as") (codes "1") ∷ pair (codes "xmlns:p") (codes "urn:p") ∷ pair (codes "z") [] ∷ []) [])
declarations_and_attributes_are_in_one_order = refl

-- ---- trees

a_row_is_printed : lit_of bindings (3 ∷ 4 ∷ []) 2 rows.nodes ≡ Some (tree (codes "row") (pair (codes "k") (codes "x") ∷ pair (codes "no") (codes "7") ∷ []) (lit.Text (codes "1") ∷ []))
a_row_is_printed = refl

children_stay_in_order : lit_of bindings (7 ∷ 10 ∷ []) 6 rows.nodes
    ≡ Some (tree (codes "row") [] (tree (codes "a") [] (lit.Text (codes "2") ∷ []) ∷ lit.Text (codes "t") ∷ tree (codes "a") [] (lit.Text (codes "3") ∷ []) ∷ []))
children_stay_in_order = refl

an_attribute_is_no_tree : lit_of bindings [] 4 rows.nodes ≡ None
an_attribute_is_no_tree = refl

a_bare_tree_has_resolved_names : bare_of 12 rows.nodes ≡ Some (bare.Element (roll-BareElement (record { name = qname 1 1 (codes "e"); attributes = []; children = bare.Text (codes "q") ∷ [] })))
a_bare_tree_has_resolved_names = refl

a_bare_attribute_keeps_its_name : bare_of 2 rows.nodes ≡ Some (bare.Element (roll-BareElement (record {
  name = qname 0 0 (codes "row");
  attributes = record { name = qname 0 0 (codes "k"); text = codes "x" } ∷ record { name = qname 0 0 (codes "no"); text = codes "7" } ∷ [];
  children = bare.Text (codes "1") ∷ [];
})))
a_bare_attribute_keeps_its_name = refl
