-- The definitions on small forests: what stands where, string values, order, axes and paths.
use Rattle.std.proofs.Common.{◌≡◌, true, false, List, [], ◌∷◌, Some, None, refl}
use Rattle.std.specs.Prelude.{codes}
use Rattle.std.specs.Fmt.{digits}
use Rattle.xf_name.specs.declared.axis.Axis.TheVariants as axis
use Rattle.xf_def_forest.specs.declared.content.Node.{Node}
use Rattle.xf_def_forest.specs.declared.content.Content.TheVariants.{Root, Element}
use Rattle.xf_def_forest.specs.declared.content.Kind.TheVariants as kind
use Rattle.xf_def_forest.specs.Forest.{written, tree_of, kind_at, name_at}
use Rattle.xf_def_forest.specs.Visit.{visits, numbers, ancestors_of, parent_of, top_of, children_of, attributes_of}
use Rattle.xf_def_forest.specs.StringValue.{string_value, string_value_within, pieces, whole}
use Rattle.xf_def_forest.specs.Order.{is_before, rank_of, in_order, instance_of}
use Rattle.xf_def_forest.specs.Axis.{axis_of}
use Rattle.xf_def_forest.specs.Path.{path_of}
use Rattle.xf_def_forest.specs.WellFormed.{HasTrees, are_depths, are_first, are_tops, have_same_name}
use Rattle.xf_def_forest.specs.Examples.{rows, pair_of_instances, node, element, attribute, text, of_p, qname}

-- ---- what stands where

a_prefix_is_written : written (of_p (codes "e")) ≡ codes "p:e"
a_prefix_is_written = refl

tree_of_a_row : numbers (tree_of 2 rows.nodes) ≡ 2 ∷ 3 ∷ 4 ∷ 5 ∷ []
tree_of_a_row = refl

tree_of_a_detached_top : numbers (tree_of 12 rows.nodes) ≡ 12 ∷ 13 ∷ []
tree_of_a_detached_top = refl

ancestors_are_nearest_first : ancestors_of 8 (visits rows.nodes) ≡ 7 ∷ 6 ∷ 1 ∷ 0 ∷ []
ancestors_are_nearest_first = refl

an_attribute_has_a_parent : parent_of 4 (visits rows.nodes) ≡ Some 2
an_attribute_has_a_parent = refl

the_root_has_no_parent : parent_of 0 (visits rows.nodes) ≡ None
the_root_has_no_parent = refl

a_detached_top_has_no_parent : parent_of 12 (visits rows.nodes) ≡ None
a_detached_top_has_no_parent = refl

the_top_is_the_root : top_of 11 (visits rows.nodes) ≡ 0
the_top_is_the_root = refl

the_top_of_a_detached_text : top_of 13 (visits rows.nodes) ≡ 12
the_top_of_a_detached_text = refl

an_attribute_is_no_child : children_of 2 (visits rows.nodes) ≡ 5 ∷ []
an_attribute_is_no_child = refl

children_are_no_grandchildren : children_of 6 (visits rows.nodes) ≡ 7 ∷ 9 ∷ 10 ∷ []
children_are_no_grandchildren = refl

attributes_of_a_row : attributes_of 2 (visits rows.nodes) ≡ 3 ∷ 4 ∷ []
attributes_of_a_row = refl

kind_of_a_node : kind_at 4 rows.nodes ≡ Some kind.Attribute
kind_of_a_node = refl

name_of_a_node : name_at 12 rows.nodes ≡ Some (qname 1 1 (codes "e"))
name_of_a_node = refl

a_text_has_no_name : name_at 13 rows.nodes ≡ None
a_text_has_no_name = refl

rows_is_a_forest : HasTrees rows
rows_is_a_forest = record { apart = refl; below = refl; depths = refl; tops = refl; first = refl }

instances_are_a_forest : HasTrees pair_of_instances
instances_are_a_forest = record { apart = refl; below = refl; depths = refl; tops = refl; first = refl }

an_attribute_behind_a_text_is_out_of_place : are_first (element 0 0 (codes "d") ∷ text 1 1 (codes "x") ∷ attribute 2 1 (codes "k") [] ∷ []) ≡ false
an_attribute_behind_a_text_is_out_of_place = refl

nothing_stands_below_an_attribute : are_depths (element 0 0 (codes "d") ∷ attribute 1 1 (codes "k") [] ∷ text 2 2 (codes "x") ∷ []) ≡ false
nothing_stands_below_an_attribute = refl

nothing_stands_above_a_root : are_tops (element 0 0 (codes "d") ∷ node 1 1 Root ∷ []) ≡ false
nothing_stands_above_a_root = refl

two_prefixes_of_one_namespace_make_one_name : have_same_name (Some (of_p (codes "k"))) (Some (record { meaning = qname 1 2 (codes "k"); prefix = codes "r" })) ≡ true
two_prefixes_of_one_namespace_make_one_name = refl

the_second_root_is_of_instance_one : instance_of 2 pair_of_instances.nodes ≡ Some 1
the_second_root_is_of_instance_one = refl

an_element_is_no_root : instance_of 3 pair_of_instances.nodes ≡ None
an_element_is_no_root = refl

the_rank_counts_attributes : rank_of 5 rows.nodes ≡ 5
the_rank_counts_attributes = refl

a_set_is_put_in_order : in_order (visits rows.nodes) (11 ∷ 2 ∷ 40 ∷ 11 ∷ 5 ∷ []) ≡ 2 ∷ 5 ∷ 11 ∷ []
a_set_is_put_in_order = refl

-- ---- string values

a_value_has_a_piece_for_each_text : pieces 6 (visits rows.nodes) ≡ codes "2" ∷ codes "t" ∷ codes "3" ∷ []
a_value_has_a_piece_for_each_text = refl

a_value_of_three_pieces_is_not_whole : whole (pieces 6 (visits rows.nodes)) ≡ None
a_value_of_three_pieces_is_not_whole = refl

one_text_is_the_whole : whole (pieces 2 (visits rows.nodes)) ≡ Some (codes "1")
one_text_is_the_whole = refl

value_of_an_attribute : string_value 4 (visits rows.nodes) ≡ codes "7"
value_of_an_attribute = refl

a_value_has_no_attributes : string_value 2 (visits rows.nodes) ≡ codes "1"
a_value_has_no_attributes = refl

texts_are_joined : string_value 6 (visits rows.nodes) ≡ codes "2t3"
texts_are_joined = refl

value_of_the_root : string_value 0 (visits rows.nodes) ≡ codes "12t3"
value_of_the_root = refl

detached_texts_stay_out : string_value 1 (visits rows.nodes) ≡ codes "12t3"
detached_texts_stay_out = refl

a_value_within_its_length : string_value_within 3 6 (visits rows.nodes) ≡ Some (codes "2t3")
a_value_within_its_length = refl

a_value_over_the_most : string_value_within 2 6 (visits rows.nodes) ≡ None
a_value_over_the_most = refl

-- ---- order

an_element_is_before_its_attributes : is_before 2 3 rows.nodes ≡ true
an_element_is_before_its_attributes = refl

attributes_are_before_children : is_before 4 5 rows.nodes ≡ true
attributes_are_before_children = refl

no_node_is_before_itself : is_before 5 5 rows.nodes ≡ false
no_node_is_before_itself = refl

a_later_node_is_not_before : is_before 6 5 rows.nodes ≡ false
a_later_node_is_not_before = refl

instances_are_before_detached_trees : is_before 11 12 rows.nodes ≡ true
instances_are_before_detached_trees = refl

-- ---- axes

following_siblings : axis_of axis.FollowingSibling 7 (visits rows.nodes) ≡ 9 ∷ 10 ∷ []
following_siblings = refl

preceding_siblings_are_nearest_first : axis_of axis.PrecedingSibling 10 (visits rows.nodes) ≡ 9 ∷ 7 ∷ []
preceding_siblings_are_nearest_first = refl

an_attribute_has_no_siblings : axis_of axis.FollowingSibling 3 (visits rows.nodes) ≡ []
an_attribute_has_no_siblings = refl

detached_tops_are_no_siblings : axis_of axis.PrecedingSibling 12 (visits rows.nodes) ≡ []
detached_tops_are_no_siblings = refl

ancestors_or_self : axis_of axis.AncestorOrSelf 7 (visits rows.nodes) ≡ 7 ∷ 6 ∷ 1 ∷ 0 ∷ []
ancestors_or_self = refl

descendants_have_no_attributes : axis_of axis.Descendant 2 (visits rows.nodes) ≡ 5 ∷ []
descendants_have_no_attributes = refl

an_attribute_is_its_own_descendant_or_self : axis_of axis.DescendantOrSelf 3 (visits rows.nodes) ≡ 3 ∷ []
an_attribute_is_its_own_descendant_or_self = refl

descendants_stay_in_the_tree : axis_of axis.Descendant 0 (visits rows.nodes) ≡ 1 ∷ 2 ∷ 5 ∷ 6 ∷ 7 ∷ 8 ∷ 9 ∷ 10 ∷ 11 ∷ []
descendants_stay_in_the_tree = refl

the_attribute_axis : axis_of axis.Attribute 2 (visits rows.nodes) ≡ 3 ∷ 4 ∷ []
the_attribute_axis = refl

the_parent_of_an_attribute : axis_of axis.Parent 3 (visits rows.nodes) ≡ 2 ∷ []
the_parent_of_an_attribute = refl

-- ---- paths

path_of_an_attribute : path_of 4 (visits rows.nodes) ≡ codes "/d/row[1]/@no"
unfolding digits
path_of_an_attribute = refl

no_index_without_a_namesake : path_of 1 (visits rows.nodes) ≡ codes "/d"
no_index_without_a_namesake = refl

path_of_the_second_row : path_of 6 (visits rows.nodes) ≡ codes "/d/row[2]"
unfolding digits
path_of_the_second_row = refl

path_of_an_element_inside : path_of 10 (visits rows.nodes) ≡ codes "/d/row[2]/a[2]"
unfolding digits
path_of_an_element_inside = refl

a_text_counts_texts_alone : path_of 9 (visits rows.nodes) ≡ codes "/d/row[2]/text()[1]"
unfolding digits
a_text_counts_texts_alone = refl

a_detached_path_starts_at_its_top : path_of 13 (visits rows.nodes) ≡ codes "/p:e/text()[1]"
unfolding digits
a_detached_path_starts_at_its_top = refl

-- ["d",["a"],["a",{"xmlns":"urn:q"}],["p:a"]], and a detached attribute
abbrev written_alike : List Node
written_alike =
    node 0 0 Root ∷ element 1 1 (codes "d") ∷ element 2 2 (codes "a") ∷ node 3 2 (Element (record { meaning = qname 2 0 (codes "a"); prefix = [] }))
    ∷ node 4 2 (Element (of_p (codes "a"))) ∷ attribute 5 0 (codes "k") [] ∷ []

namesakes_are_written_alike : path_of 3 (visits written_alike) ≡ codes "/d/a[2]"
unfolding digits
namesakes_are_written_alike = refl

a_prefix_makes_another_name : path_of 4 (visits written_alike) ≡ codes "/d/p:a"
a_prefix_makes_another_name = refl

path_of_a_detached_attribute : path_of 5 (visits written_alike) ≡ codes "/@k"
path_of_a_detached_attribute = refl

path_of_a_root : path_of 0 (visits rows.nodes) ≡ codes "/"
path_of_a_root = refl
