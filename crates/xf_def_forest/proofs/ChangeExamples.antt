-- Changes of small forests: roots, copies, trees detached and attached, and limits at their edges.
use Rattle.std.proofs.Common.{◌≡◌, false, [], ◌∷◌, ◌++◌, map, take, Some, None, Ok, Err, inr, refl}
use Rattle.std.specs.Prelude.{ℕ, List, codes}
use Rattle.xf_def_forest.specs.declared.content.Content.TheVariants.{Root, Element, Attribute}
use Rattle.xf_def_forest.specs.declared.content.Kind.TheVariants as kind
use Rattle.xf_def_forest.specs.declared.fault.TreeFault.TheVariants.{Nodes, AllText, Depth}
use Rattle.xf_def_forest.specs.Forest.{Forest}
use Rattle.xf_def_forest.specs.Visit.{visits, children_of, attributes_of}
use Rattle.xf_def_forest.specs.Limits.{Limits, node_count, all_size}
use Rattle.xf_def_forest.specs.Changes.{with_root, root_of, copied, standing, detached, placed, attached, in_instances}
use Rattle.xf_def_forest.specs.Needs.{MayCopy, MayRoot, MayDetach, MayAttach, in_element, in_root, as_attribute, lacks_name, MayPlace, goes_below, MayDropFrom}
use Rattle.xf_def_forest.specs.WellFormed.{HasTrees, AreTrees, are_first}
use Rattle.xf_def_forest.specs.Examples.{rows, pair_of_instances, just, wide, node, element, attribute, text, of_p, qname}

-- the depths beside the numbers
abbrev outline : Forest → List (ℕ × ℕ)
outline forest = map (λ x. (x.number, x.depth)) forest.nodes

-- ---- roots

the_second_root : root_of 1 pair_of_instances.nodes ≡ Some 2
the_second_root = refl

no_third_root : root_of 2 pair_of_instances.nodes ≡ None
no_third_root = refl

a_new_root_stands_before_detached_trees : outline (with_root 12 (record rows { next = 20 })).1 ≡ outline (record rows { nodes = take 12 rows.nodes }) ++ (20, 0) ∷ (12, 1) ∷ (13, 2) ∷ []
a_new_root_stands_before_detached_trees = refl

the_first_root : with_root 0 (record { nodes = element 0 0 (codes "d") ∷ []; next = 1 }) ≡ (1, record { nodes = node 1 0 Root ∷ element 0 1 (codes "d") ∷ []; next = 2 })
the_first_root = refl

-- ---- detach

a_tree_cut_off_stands_last : outline (detached 2 rows) ≡ (0, 0) ∷ (1, 1) ∷ (6, 2) ∷ (7, 3) ∷ (8, 4) ∷ (9, 3) ∷ (10, 3) ∷ (11, 4) ∷ (12, 0) ∷ (13, 1) ∷ (2, 0) ∷ (3, 1) ∷ (4, 1) ∷ (5, 1) ∷ []
a_tree_cut_off_stands_last = refl

two_texts_that_meet_stay_two : children_of 1 (visits (detached 2 (record {
  nodes = node 0 0 Root ∷ element 1 1 (codes "d") ∷ text 3 2 (codes "x") ∷ element 2 2 (codes "a") ∷ text 4 2 (codes "y") ∷ [];
  next = 5;
})).nodes) ≡ 3 ∷ 4 ∷ []
two_texts_that_meet_stay_two = refl

the_place_counts_texts : standing 10 rows.nodes ≡ Some (6, 2)
the_place_counts_texts = refl

the_place_counts_no_attributes : standing 5 rows.nodes ≡ Some (2, 0)
the_place_counts_no_attributes = refl

an_attribute_has_a_place_among_attributes : standing 4 rows.nodes ≡ Some (2, 1)
an_attribute_has_a_place_among_attributes = refl

a_top_stands_below_nothing : standing 12 rows.nodes ≡ None
a_top_stands_below_nothing = refl

a_forest_stays_one : HasTrees (detached 6 rows)
a_forest_stays_one = record { apart = refl; below = refl; depths = refl; tops = refl; first = refl }

a_tree_cut_out_of_a_detached_one_stands_last : outline (detached 4 (record { nodes = element 3 0 (codes "d") ∷ element 4 1 (codes "a") ∷ text 5 1 (codes "x") ∷ element 6 0 (codes "b") ∷ []; next = 7 })) ≡ (3, 0) ∷ (5, 1) ∷ (6, 0) ∷ (4, 0) ∷ []
a_tree_cut_out_of_a_detached_one_stands_last = refl

-- ---- attach

attached_in_the_middle : attached wide 12 6 1 rows ≡ Ok (record {
  nodes = take 9 rows.nodes ++ node 12 3 (Element (of_p (codes "e"))) ∷ text 13 4 (codes "q") ∷ text 9 3 (codes "t") ∷ element 10 3 (codes "a") ∷ text 11 4 (codes "3") ∷ [];
  next = 14;
})
attached_in_the_middle = refl

the_first_place_is_behind_the_attributes : attached wide 12 2 0 rows ≡ Ok (record {
  nodes = take 5 rows.nodes ++ node 12 3 (Element (of_p (codes "e"))) ∷ text 13 4 (codes "q") ∷ text 5 3 (codes "1")
      ∷ element 6 2 (codes "row") ∷ element 7 3 (codes "a") ∷ text 8 4 (codes "2") ∷ text 9 3 (codes "t") ∷ element 10 3 (codes "a") ∷ text 11 4 (codes "3") ∷ [];
  next = 14;
})
the_first_place_is_behind_the_attributes = refl

-- an element with the attributes a and c, and a detached attribute
abbrev in_line : List ℕ → Forest
in_line name = record { nodes = element 0 0 (codes "e") ∷ attribute 1 1 (codes "b") [] ∷ attribute 2 1 (codes "d") [] ∷ text 3 1 (codes "x") ∷ attribute 4 0 name [] ∷ []; next = 5 }

an_attribute_goes_to_its_place_by_name : attached wide 4 0 7 (in_line (codes "c")) ≡ Ok (record {
  nodes = element 0 0 (codes "e") ∷ attribute 1 1 (codes "b") [] ∷ attribute 4 1 (codes "c") [] ∷ attribute 2 1 (codes "d") [] ∷ text 3 1 (codes "x") ∷ [];
  next = 5;
})
an_attribute_goes_to_its_place_by_name = refl

a_last_attribute_stands_before_the_children : attached wide 4 0 0 (in_line (codes "e")) ≡ Ok (record {
  nodes = element 0 0 (codes "e") ∷ attribute 1 1 (codes "b") [] ∷ attribute 2 1 (codes "d") [] ∷ attribute 4 1 (codes "e") [] ∷ text 3 1 (codes "x") ∷ [];
  next = 5;
})
a_last_attribute_stands_before_the_children = refl

detached_and_attached_again : attached wide 6 1 1 (detached 6 (record rows { nodes = in_instances rows.nodes })) ≡ Ok (record rows { nodes = in_instances rows.nodes })
detached_and_attached_again = refl

-- the element of the first instance makes room for a detached one
abbrev replaced : Forest
replaced = record { nodes = (detached 1 pair_of_instances).nodes ++ element 5 0 (codes "c") ∷ []; next = 6 }

a_root_without_an_element_is_in_a_forest : HasTrees replaced
a_root_without_an_element_is_in_a_forest = record { apart = refl; below = refl; depths = refl; tops = refl; first = refl }

an_element_may_be_attached_to_such_a_root : MayAttach 5 0 0 replaced
an_element_may_be_attached_to_such_a_root = record { detached = refl; outside = refl; stands = in_root refl refl refl refl }

an_element_is_attached_to_its_root : attached (record wide { depth = 1 }) 5 0 0 replaced ≡ Ok (record {
  nodes = node 0 0 Root ∷ element 5 1 (codes "c") ∷ node 2 0 Root ∷ element 3 1 (codes "b") ∷ text 4 2 (codes "x") ∷ element 1 0 (codes "a") ∷ [];
  next = 6;
})
an_element_is_attached_to_its_root = refl

-- the element 2 has the attributes k 3 and no 4: what is placed goes by its place, what is attached by its name
an_attribute_is_placed_by_its_place : attributes_of 2 (visits (placed 3 2 1 (detached 3 rows)).nodes) ≡ 4 ∷ 3 ∷ []
an_attribute_is_placed_by_its_place = refl

an_attribute_is_placed_before_the_children : attributes_of 2 (visits (placed 3 2 7 (detached 3 rows)).nodes) ≡ 4 ∷ 3 ∷ []
an_attribute_is_placed_before_the_children = refl

an_attribute_cut_off_is_placed_again : placed 3 2 0 (detached 3 rows) ≡ rows
an_attribute_cut_off_is_placed_again = refl

an_attribute_is_attached_by_its_name : attached wide 3 2 7 (detached 3 rows) ≡ Ok rows
an_attribute_is_attached_by_its_name = refl

-- ---- copies

a_copy_has_new_numbers : copied wide 6 (record rows { next = 20 }) ≡ Ok (
  20,
  record {
    nodes = rows.nodes ++ element 20 0 (codes "row") ∷ element 21 1 (codes "a") ∷ text 22 2 (codes "2") ∷ text 23 1 (codes "t") ∷ element 24 1 (codes "a") ∷ text 25 2 (codes "3") ∷ [];
    next = 26;
  },
)
a_copy_has_new_numbers = refl

a_copy_of_an_attribute : copied wide 3 rows ≡ Ok (14, record { nodes = rows.nodes ++ attribute 14 0 (codes "k") (codes "x") ∷ []; next = 15 })
a_copy_of_an_attribute = refl

a_copy_of_a_text : copied wide 5 rows ≡ Ok (14, record { nodes = rows.nodes ++ text 14 0 (codes "1") ∷ []; next = 15 })
a_copy_of_a_text = refl

-- ---- limits

roots_are_not_counted : node_count rows.nodes ≡ 13
roots_are_not_counted = refl

-- d row k x no 7 1 row a 2 t a 3 p e q
prefixes_and_names_are_counted : all_size rows.nodes ≡ 21
prefixes_and_names_are_counted = refl

the_limits_are_met : copied (record just { nodes = 14; all = 23 }) 3 rows ≡ Ok (14, record { nodes = rows.nodes ++ attribute 14 0 (codes "k") (codes "x") ∷ []; next = 15 })
the_limits_are_met = refl

one_node_too_many : copied just 3 rows ≡ Err Nodes
one_node_too_many = refl

one_byte_too_many : copied (record just { nodes = 14; all = 22 }) 3 rows ≡ Err AllText
one_byte_too_many = refl

nodes_before_bytes : copied (record just { all = 21 }) 3 rows ≡ Err Nodes
nodes_before_bytes = refl

-- elements count from the top down, and a root is none
abbrev deep : Limits
deep = record wide { depth = 3 }

as_deep_as_may_be : attached deep 12 6 1 rows ≡ attached wide 12 6 1 rows
as_deep_as_may_be = refl

attached_too_deep : attached deep 12 7 1 rows ≡ Err Depth
attached_too_deep = refl

-- ---- what changes need

a_detached_element_may_stand_below_another : MayAttach 12 6 3 rows
a_detached_element_may_stand_below_another = record { detached = refl; outside = refl; stands = in_element refl refl refl }

an_attribute_of_a_new_name_may_be_attached : MayAttach 4 0 0 (in_line (codes "c"))
an_attribute_of_a_new_name_may_be_attached = record { detached = refl; outside = refl; stands = as_attribute refl refl refl }

-- two attributes that are written alike and mean two names: no form has both, but a forest knows no form
abbrev alike : Forest
alike = record { nodes = element 0 0 (codes "e") ∷ attribute 1 1 (codes "b") [] ∷ node 2 0 (Attribute (record { meaning = qname 2 0 (codes "b"); prefix = [] }) []) ∷ []; next = 3 }

alike_is_a_forest : HasTrees alike
alike_is_a_forest = record { apart = refl; below = refl; depths = refl; tops = refl; first = refl }

an_attribute_written_alike_may_be_attached : MayAttach 2 0 0 alike
an_attribute_written_alike_may_be_attached = record { detached = refl; outside = refl; stands = as_attribute refl refl refl }

what_may_be_attached_leaves_a_forest : HasTrees (placed 2 0 0 alike)
what_may_be_attached_leaves_a_forest = record { apart = refl; below = refl; depths = refl; tops = refl; first = refl }

what_was_cut_off_may_be_placed_again : MayPlace 3 2 (detached 3 rows)
what_was_cut_off_may_be_placed_again = record { detached = refl; outside = refl; kinds = refl }

a_text_is_placed_nowhere : goes_below (Some kind.Text) (Some kind.Element) ≡ false
a_text_is_placed_nowhere = refl

all_are_trees : AreTrees (record { forest = rows; kept = [] })
all_are_trees = record { apart = refl; below = refl; depths = refl; tops = refl; first = refl; kept_apart = refl; kept_outside = refl; kept_below = refl }

an_attribute_behind_a_child_does_not_stand_first : are_first (element 0 0 (codes "e") ∷ element 1 1 (codes "a") ∷ attribute 2 1 (codes "b") [] ∷ []) ≡ false
an_attribute_behind_a_child_does_not_stand_first = refl

an_attribute_of_a_name_that_stands_may_not : lacks_name 4 0 (in_line (codes "b")) ≡ false
an_attribute_of_a_name_that_stands_may_not = refl

an_attribute_may_be_detached : MayDetach 4 rows
an_attribute_may_be_detached = record { below = refl; kind = inr refl }

a_root_may_come_over_a_detached_element : MayRoot 12 rows
a_root_may_come_over_a_detached_element = record { detached = refl; kind = refl }

a_text_may_be_copied : MayCopy 5 rows
a_text_may_be_copied = refl

what_is_detached_and_new_may_go : MayDropFrom 12 rows
what_is_detached_and_new_may_go = record { known = refl; whole = refl }
