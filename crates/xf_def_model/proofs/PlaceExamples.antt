-- Where copies go and what is deleted, on small data.
use Rattle.std.proofs.Common.{◌≡◌, ℕ, Bool, true, false, List, [], ◌∷◌, ℤ, pos, negsuc, Option, Some, None, refl}
use Rattle.xf_def_forest.specs.declared.node.NodeId.{NodeId}
use Rattle.xf_def_forest.specs.Examples.{rows}
use Rattle.xf_def_model.specs.declared.asked.InsertAsked.{InsertAsked}
use Rattle.xf_def_model.specs.Places.{Place, row_place, planned_insert}
use Rattle.xf_def_model.specs.Taken.{planned_delete}
use Rattle.xf_def_model.specs.Examples

-- rows is ["d",["row",{"k":"x","no":"7"},"1"],["row",["a","2"],"t",["a","3"]]], and detached ["p:e","q"]

abbrev node : ℕ → NodeId
node n = record { number = n; place = 0 }

-- copies of these nodes at a place of a set
abbrev insert : List ℕ → Option ℤ → Bool → List ℕ → InsertAsked
insert set at after origin = record { set = set; context = node 1; given = false; origin = origin; at = at; after = after; closed = [] }

-- copies in a context
abbrev into : ℕ → List ℕ → InsertAsked
into context origin = record { set = []; context = node context; given = true; origin = origin; at = None; after = true; closed = [] }

abbrev planned : InsertAsked → List Place
planned asked = planned_insert rows.nodes asked

-- ---- beside an element

behind_the_last : planned (insert (2 ∷ 6 ∷ []) None true (6 ∷ [])) ≡ row_place 1 2 6 ∷ []
behind_the_last = refl

before_the_last : planned (insert (2 ∷ 6 ∷ []) None false (6 ∷ [])) ≡ row_place 1 1 6 ∷ []
before_the_last = refl

behind_the_first : planned (insert (2 ∷ 6 ∷ []) (Some (pos 1)) true (6 ∷ [])) ≡ row_place 1 1 6 ∷ []
behind_the_first = refl

-- `at` is held between 1 and the size; NaN comes as the greatest number
at_zero : planned (insert (2 ∷ 6 ∷ []) (Some (pos 0)) false (6 ∷ [])) ≡ row_place 1 0 6 ∷ []
at_zero = refl

below_zero : planned (insert (2 ∷ 6 ∷ []) (Some (negsuc 4)) false (6 ∷ [])) ≡ row_place 1 0 6 ∷ []
below_zero = refl

past_the_size : planned (insert (2 ∷ 6 ∷ []) (Some (pos 9223372036854775807)) false (6 ∷ [])) ≡ row_place 1 1 6 ∷ []
past_the_size = refl

-- several stand in their order
one_behind_the_other : planned (insert (2 ∷ 6 ∷ []) (Some (pos 1)) false (2 ∷ 6 ∷ [])) ≡ row_place 1 0 2 ∷ row_place 1 1 6 ∷ []
one_behind_the_other = refl

-- texts count as children
behind_a_text : planned (insert (7 ∷ 10 ∷ []) None false (7 ∷ [])) ≡ row_place 6 2 7 ∷ []
behind_a_text = refl

-- no text, and no attribute beside an element
elements_alone : planned (insert (2 ∷ []) None true (3 ∷ 5 ∷ 6 ∷ [])) ≡ row_place 1 1 6 ∷ []
elements_alone = refl

without_an_origin : planned (insert (2 ∷ []) None true []) ≡ []
without_an_origin = refl

a_detached_one : planned (insert (12 ∷ []) None true (2 ∷ [])) ≡ []
a_detached_one = refl

under_a_readonly_parent : planned (record (insert (2 ∷ []) None true (2 ∷ [])) { closed = 1 ∷ [] }) ≡ []
under_a_readonly_parent = refl

beside_a_readonly_node : planned (record (insert (2 ∷ []) None true (2 ∷ [])) { closed = 2 ∷ [] }) ≡ row_place 1 1 2 ∷ []
beside_a_readonly_node = refl

-- ---- in place of a document element

the_first_alone : planned (insert (1 ∷ []) None true (3 ∷ 2 ∷ 6 ∷ [])) ≡ record (row_place 0 0 2) { replaces = Some 1 } ∷ []
the_first_alone = refl

-- ---- attributes

in_place_of_its_namesake : planned (insert (3 ∷ []) None true (4 ∷ 6 ∷ [])) ≡ record (row_place 2 0 4) { replaces = Some 4 } ∷ []
in_place_of_its_namesake = refl

-- two of one name: the second copy replaces the first one
twice_replaced :
    planned_insert Examples.numbered (insert (3 ∷ []) None true (3 ∷ 5 ∷ []))
    ≡ record (row_place 2 0 3) { replaces = Some 3 } ∷ record (row_place 2 0 5) { again = Some 0 } ∷ []
twice_replaced = refl

three_times :
    planned_insert Examples.numbered (into 1 (3 ∷ 5 ∷ 3 ∷ []))
    ≡ row_place 1 0 3 ∷ record (row_place 1 0 5) { again = Some 0 } ∷ record (row_place 1 0 3) { again = Some 1 } ∷ []
three_times = refl

-- ---- in a context, where the set is empty

before_its_first_child : planned (into 6 (3 ∷ 7 ∷ 5 ∷ 10 ∷ [])) ≡ row_place 6 0 3 ∷ row_place 6 0 7 ∷ row_place 6 1 10 ∷ []
before_its_first_child = refl

only_where_it_is_written : planned (record (into 6 (7 ∷ [])) { given = false }) ≡ []
only_where_it_is_written = refl

only_in_an_element : planned (into 3 (7 ∷ [])) ≡ []
only_in_an_element = refl

-- a set that is not empty goes before the context
not_in_the_context : planned (record (into 6 (7 ∷ [])) { set = 2 ∷ [] }) ≡ row_place 1 1 7 ∷ []
not_in_the_context = refl

in_a_readonly_context : planned (record (into 6 (7 ∷ [])) { closed = 6 ∷ [] }) ≡ []
in_a_readonly_context = refl

-- ---- delete

abbrev deleted : List ℕ → Option ℤ → List ℕ → List ℕ
deleted set at closed = planned_delete rows.nodes (record { set = set; at = at; closed = closed })

all_of_the_set : deleted (2 ∷ 6 ∷ []) None [] ≡ 2 ∷ 6 ∷ []
all_of_the_set = refl

one_of_the_set : deleted (2 ∷ 6 ∷ []) (Some (pos 2)) [] ≡ 6 ∷ []
one_of_the_set = refl

held_in_range : deleted (2 ∷ 6 ∷ []) (Some (pos 9)) [] ≡ 6 ∷ []
held_in_range = refl

held_at_one : deleted (2 ∷ 6 ∷ []) (Some (negsuc 0)) [] ≡ 2 ∷ []
held_at_one = refl

no_document_element : deleted (1 ∷ 2 ∷ []) None [] ≡ 2 ∷ []
no_document_element = refl

no_detached_top : deleted (12 ∷ []) None [] ≡ []
no_detached_top = refl

what_is_below_goes_along : deleted (2 ∷ 3 ∷ 6 ∷ 10 ∷ []) None [] ≡ 2 ∷ 6 ∷ []
what_is_below_goes_along = refl

-- row 6 is readonly: itself it may go, what is in it may not
readonly_parents : deleted (7 ∷ 10 ∷ []) None (6 ∷ []) ≡ []
readonly_parents = refl

a_readonly_node_itself : deleted (6 ∷ []) None (6 ∷ []) ≡ 6 ∷ []
a_readonly_node_itself = refl

of_an_empty_set : deleted [] (Some (pos 1)) [] ≡ []
of_an_empty_set = refl
