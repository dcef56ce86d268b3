-- Texts set and put back on small forests.
use Rattle.std.proofs.Common.{◌≡◌, [], ◌∷◌, ◌++◌, take, drop, Ok, Err, refl}
use Rattle.std.specs.Prelude.{ℕ, List, codes}
use Rattle.xf_def_forest.specs.declared.fault.TreeFault.TheVariants.{Nodes, NodeText, AllText}
use Rattle.xf_def_forest.specs.Texts.{Keeping, KeptText, attribute_text, element_texts, text_set, put_back, given_up, without_detached, without_from}
use Rattle.xf_def_forest.specs.Changes.{in_instances, detached}
use Rattle.xf_def_forest.specs.Undo.{noted, set, joined, cut, of_text, of_detach, kept_at, with_note, text_filled, place_filled, rolled_back}
use Rattle.xf_def_forest.specs.WellFormed.{AreTrees}
use Rattle.xf_def_forest.specs.Examples.{rows, keeping, just, wide, element, attribute, text}

abbrev kept_text : ℕ → ℕ → List ℕ → KeptText
kept_text number owner cs = record { number = number; owner = owner; text = cs }

abbrev with_new : Keeping
with_new = record {
  forest = record { nodes = take 5 rows.nodes ++ text 14 3 (codes "9") ∷ drop 6 rows.nodes; next = 15 };
  kept = kept_text 5 2 (codes "1") ∷ [];
}

abbrev with_none : Keeping
with_none = record { forest = record rows { nodes = take 5 rows.nodes ++ drop 6 rows.nodes }; kept = kept_text 5 2 (codes "1") ∷ [] }

a_text_has_a_new_number : text_set wide 2 (codes "9") keeping ≡ Ok (element_texts (5 ∷ []), with_new)
a_text_has_a_new_number = refl

an_empty_text_is_none : text_set wide 2 [] keeping ≡ Ok (element_texts (5 ∷ []), with_none)
an_empty_text_is_none = refl

a_text_where_none_was : text_set wide 2 (codes "9") with_none ≡ Ok (element_texts [], record with_new { kept = with_none.kept })
a_text_where_none_was = refl

an_attribute_keeps_its_number : text_set wide 4 (codes "8") keeping ≡ Ok (
  attribute_text (codes "7"),
  record keeping {
    forest = record rows { nodes = take 4 rows.nodes ++ attribute 4 3 (codes "no") (codes "8") ∷ drop 5 rows.nodes };
  },
)
an_attribute_keeps_its_number = refl

an_attribute_may_be_empty : text_set wide 4 [] keeping ≡ Ok (
  attribute_text (codes "7"),
  record keeping {
    forest = record rows { nodes = take 4 rows.nodes ++ attribute 4 3 (codes "no") [] ∷ drop 5 rows.nodes };
  },
)
an_attribute_may_be_empty = refl

-- two texts side by side, from which an element between was detached
abbrev two_texts : Keeping
two_texts = record { forest = record { nodes = element 0 0 (codes "d") ∷ text 1 1 (codes "x") ∷ text 3 1 (codes "y") ∷ element 2 0 (codes "a") ∷ []; next = 4 }; kept = [] }

all_texts_of_an_element_go : text_set wide 0 (codes "z") two_texts ≡ Ok (
  element_texts (1 ∷ 3 ∷ []),
  record {
    forest = record { nodes = element 0 0 (codes "d") ∷ text 4 1 (codes "z") ∷ element 2 0 (codes "a") ∷ []; next = 5 };
    kept = kept_text 1 0 (codes "x") ∷ kept_text 3 0 (codes "y") ∷ [];
  },
)
all_texts_of_an_element_go = refl

what_is_kept_stays_apart : AreTrees with_new
what_is_kept_stays_apart = record { apart = refl; below = refl; depths = refl; tops = refl; first = refl; kept_apart = refl; kept_outside = refl; kept_below = refl }

-- ---- put back, given up, dropped

texts_come_back_with_their_numbers : put_back 2 (element_texts (5 ∷ [])) with_new ≡ record keeping { forest = record rows { next = 15 } }
texts_come_back_with_their_numbers = refl

no_texts_come_back : put_back 2 (element_texts []) with_new ≡ record { forest = record with_none.forest { next = 15 }; kept = with_none.kept }
no_texts_come_back = refl

an_attribute_has_its_text_again : put_back 4 (attribute_text (codes "7")) (record keeping { forest = record rows { nodes = take 4 rows.nodes ++ attribute 4 3 (codes "no") [] ∷ drop 5 rows.nodes } }) ≡ keeping
an_attribute_has_its_text_again = refl

texts_given_up_are_kept_no_more : given_up (element_texts (5 ∷ [])) with_new ≡ record with_new { kept = [] }
texts_given_up_are_kept_no_more = refl

other_texts_stay_kept : given_up (element_texts (6 ∷ [])) with_new ≡ with_new
other_texts_stay_kept = refl

detached_trees_and_kept_texts_go : without_detached with_new ≡ record { forest = record { nodes = in_instances with_new.forest.nodes; next = 15 }; kept = [] }
detached_trees_and_kept_texts_go = refl

what_is_new_goes : without_from 12 with_new ≡ record { forest = record { nodes = take 5 rows.nodes ++ take 6 (drop 6 rows.nodes); next = 12 }; kept = [] }
what_is_new_goes = refl

-- ---- limits

a_text_at_its_limit : text_set (record just { all = 21 }) 2 (codes "9") keeping ≡ Ok (element_texts (5 ∷ []), with_new)
a_text_at_its_limit = refl

kept_texts_do_not_count : text_set just 2 (codes "9") with_none ≡ Ok (element_texts [], record with_new { kept = with_none.kept })
kept_texts_do_not_count = refl

one_node_too_many : text_set (record just { nodes = 12; text = 0; all = 0 }) 2 (codes "9") keeping ≡ Err Nodes
one_node_too_many = refl

one_byte_too_long : text_set (record just { all = 0 }) 2 (codes "99") keeping ≡ Err NodeText
one_byte_too_long = refl

one_byte_too_many : text_set (record just { all = 20 }) 2 (codes "9") keeping ≡ Err AllText
one_byte_too_many = refl

-- the old text does not count
an_old_text_makes_room : text_set (record just { all = 20 }) 2 [] keeping ≡ Ok (element_texts (5 ∷ []), with_none)
an_old_text_makes_room = refl

a_longer_attribute : text_set (record just { text = 2; all = 21 }) 4 (codes "77") keeping ≡ Err AllText
a_longer_attribute = refl

-- ---- undo

abbrev instances : Keeping
instances = record { forest = record rows { nodes = in_instances rows.nodes }; kept = [] }

noted_alone_is_nothing : rolled_back (with_note (of_text 2) (kept_at instances.forest)) instances ≡ instances
noted_alone_is_nothing = refl

-- the text of the first row set
abbrev once : Keeping
once = record { forest = record { nodes = in_instances with_new.forest.nodes; next = 15 }; kept = with_new.kept }

a_text_is_undone : rolled_back (record { entries = set 2 (element_texts (5 ∷ [])) ∷ []; next = 14 }) once ≡ instances
a_text_is_undone = refl

-- and set again: what it had in between is given up
abbrev twice : Keeping
twice = record once { kept = once.kept ++ kept_text 14 2 (codes "9") ∷ [] }

the_first_content_is_kept_alone : text_filled (element_texts (14 ∷ [])) (record { entries = noted (of_text 2) ∷ set 2 (element_texts (5 ∷ [])) ∷ []; next = 14 }) twice
    ≡ (record { entries = set 2 (element_texts (5 ∷ [])) ∷ []; next = 14 }, once)
the_first_content_is_kept_alone = refl

a_change_of_children_parts_two_settings : (text_filled (element_texts (14 ∷ [])) (record { entries = noted (of_text 2) ∷ cut 7 2 0 ∷ set 2 (element_texts (5 ∷ [])) ∷ []; next = 14 }) twice).1 ≡ twice
a_change_of_children_parts_two_settings = refl

an_attribute_parts_no_settings : (text_filled (element_texts (14 ∷ [])) (record { entries = noted (of_text 2) ∷ cut 4 2 1 ∷ joined 3 ∷ set 2 (element_texts (5 ∷ [])) ∷ []; next = 14 }) twice).1 ≡ once
an_attribute_parts_no_settings = refl

an_attribute_goes_back : rolled_back (record { entries = cut 3 2 0 ∷ []; next = 14 }) (record instances { forest = detached 3 instances.forest }) ≡ instances
an_attribute_goes_back = refl

-- the first a is detached, then the second one: its place is what it was without the first
the_last_change_is_undone_first : rolled_back (record { entries = cut 10 6 1 ∷ cut 7 6 0 ∷ []; next = 14 }) (record instances { forest = detached 10 (detached 7 instances.forest) }) ≡ instances
the_last_change_is_undone_first = refl

a_place_is_filled_in : place_filled 1 1 (with_note (of_detach 6) (kept_at rows)) ≡ record { entries = cut 6 1 1 ∷ []; next = 14 }
a_place_is_filled_in = refl

a_tree_goes_back : rolled_back (record { entries = cut 6 1 1 ∷ []; next = 14 }) (record instances { forest = detached 6 instances.forest }) ≡ instances
a_tree_goes_back = refl

what_was_attached_goes : rolled_back (record { entries = joined 14 ∷ []; next = 14 }) (record instances {
  forest = record { nodes = in_instances rows.nodes ++ text 14 2 (codes "n") ∷ []; next = 15 };
}) ≡ instances
what_was_attached_goes = refl
