-- Copies of controls and containers, their values and states; cases.
use Rattle.std.proofs.Common.{◌≡◌, ℕ, Bool, true, false, not, ◌||◌, List, [], ◌∷◌, map, Option, Some, None, option_map, refl, codes, ◌==◌}
use Rattle.xf_def_forest.specs.declared.content.Node.{Node}
use Rattle.xf_def_forest.specs.declared.content.Content.TheVariants.{Root}
use Rattle.xf_def_forest.specs.Examples.{node, element, text}
use Rattle.xf_def_xpath.specs.Examples.{literal}
use Rattle.xf_def_ui.specs.Interface.{Interface}
use Rattle.xf_def_ui.specs.Interface as sort
use Rattle.xf_def_ui.specs.Index.{Index}
use Rattle.xf_def_ui.specs.Cases.{first_cases, is_selected}
use Rattle.xf_def_ui.specs.Places.{places}
use Rattle.xf_def_ui.specs.declared.marks.Marks.{Marks}
use Rattle.xf_def_ui.specs.Copies.{Copy, copies, copy_count}
use Rattle.xf_def_ui.specs.Notifications.{Notification, notifications}
use Rattle.xf_def_ui.specs.Examples
use Rattle.xf_def_ui.specs.Examples.{inside, around, as_usual}

-- ---- the order

-- a repeat is expanded row by row: the trigger and the inner repeat of the first s come before those of the second one
row_by_row :
    places Examples.lists (around Examples.two_lists)
    ≡ Some ((1, []) ∷ (2, 2 ∷ []) ∷ (3, 2 ∷ []) ∷ (4, 2 ∷ 3 ∷ []) ∷ (4, 2 ∷ 5 ∷ []) ∷ (2, 7 ∷ []) ∷ (3, 7 ∷ []) ∷ (4, 7 ∷ 8 ∷ []) ∷ (5, []) ∷ [])
row_by_row = refl

without_rows : places Examples.lists (around Examples.no_list) ≡ Some ((1, []) ∷ (5, []) ∷ [])
without_rows = refl

-- ---- values

-- ["d",["a","1"],["b"]]
abbrev small : List Node
small = node 0 0 Root ∷ element 1 1 (codes "d") ∷ element 2 2 (codes "a") ∷ text 3 3 (codes "1") ∷ element 4 2 (codes "b") ∷ []

-- 1 a trigger on a, 2 a group on `.`, 3 an input on zz, 4 an input on b, 5 an output with `value`; in the group 6 on zz such an output; 8 an
-- output with `value` on zz; 9 a trigger on nothing
abbrev valued : Interface
valued = Examples.interface
    (Examples.top (1 ∷ 2 ∷ 3 ∷ 4 ∷ 5 ∷ 6 ∷ 8 ∷ 9 ∷ [])
    ∷ Examples.by (Examples.to (codes "a")) (inside 0 [] sort.field)
    ∷ Examples.by Examples.itself (inside 0 [] sort.group)
    ∷ Examples.by (Examples.to (codes "zz")) (inside 0 [] sort.field)
    ∷ Examples.by (Examples.to (codes "b")) (inside 0 [] sort.field)
    ∷ inside 0 [] (sort.output (Some (literal (codes "v")).meaning))
    ∷ Examples.by (Examples.to (codes "zz")) (inside 0 (7 ∷ []) sort.group)
    ∷ inside 6 [] (sort.output (Some (literal (codes "v")).meaning))
    ∷ Examples.by (Examples.to (codes "zz")) (inside 0 [] (sort.output (Some (literal (codes "v")).meaning)))
    ∷ inside 0 [] sort.field
    ∷ [])
    [] []

abbrev value_in : Copy → ℕ × Option (List ℕ)
value_in c = (c.element, c.value)

-- by the bound node, whatever the element is: a trigger and a group have values; what binds nothing has none, which is no empty value
by_the_bound_node :
    option_map (map value_in) (copies valued (around small) as_usual [] [])
    ≡ Some ((1, Some (codes "1")) ∷ (2, Some (codes "1")) ∷ (3, None) ∷ (4, Some []) ∷ (5, Some (codes "v")) ∷ (6, None) ∷ (7, None) ∷ (8, None) ∷ (9, None) ∷ [])
by_the_bound_node = refl

-- ---- states

abbrev states : Copy → ℕ × Bool × Bool × Bool × Bool
states c = (c.element, c.enabled, c.readwrite, c.required, c.valid)

abbrev states_of : Interface → List Node → (ℕ → Marks) → List ℕ → List Index → Option (List (ℕ × Bool × Bool × Bool × Bool))
states_of f all marks cases indexes = option_map (map states) (copies f (around all) marks cases indexes)

-- a readonly, required and invalid; b not relevant
abbrev marks : ℕ → Marks
marks n = record { relevant = not (n == 4); readonly = n == 2; required = n == 2; valid = not (n == 2) }

-- without a bound node a copy is readwrite, not required and valid; disabled where it has a binding that selects nothing, or in a container
-- that is disabled
by_the_properties_of_the_node :
    states_of valued small marks [] []
    ≡ Some ((1, true, false, true, false) ∷ (2, true, true, false, true) ∷ (3, false, true, false, true) ∷ (4, false, true, false, true)
    ∷ (5, true, true, false, true) ∷ (6, false, true, false, true) ∷ (7, false, true, false, true) ∷ (8, false, true, false, true)
    ∷ (9, true, true, false, true) ∷ [])
by_the_properties_of_the_node = refl

-- of which nodes are not relevant
abbrev irrelevant : (ℕ → Bool) → ℕ → Marks
irrelevant is_one n = record { relevant = not (is_one n); readonly = false; required = false; valid = true }

abbrev enabled_in : Copy → ℕ × Bool
enabled_in c = (c.element, c.enabled)

abbrev enabled_of : Interface → List Node → (ℕ → Bool) → List ℕ → Option (List (ℕ × Bool))
enabled_of f all is_one cases = option_map (map enabled_in) (copies f (around all) (irrelevant is_one) cases [])

-- a repeat counts as without a binding: it and a trigger in a row that is not relevant are enabled
rows_that_are_not_relevant :
    enabled_of Examples.lists Examples.two_lists (λ n. (n == 2) || (n == 3)) []
    ≡ Some ((1, true) ∷ (2, true) ∷ (3, true) ∷ (4, false) ∷ (4, true) ∷ (2, true) ∷ (3, true) ∷ (4, true) ∷ (5, true) ∷ [])
rows_that_are_not_relevant = refl

-- a switch, its cases 2 and 4, in each an input on e; the second case is written as selected
abbrev switched : Interface
switched = Examples.interface
    (Examples.top (1 ∷ [])
    ∷ inside 0 (2 ∷ 4 ∷ []) (sort.switch 0)
    ∷ inside 1 (3 ∷ []) (sort.one_case false)
    ∷ Examples.by (Examples.to (codes "e")) (inside 2 [] sort.field)
    ∷ inside 1 (5 ∷ []) (sort.one_case true)
    ∷ Examples.by (Examples.to (codes "e")) (inside 4 [] sort.field)
    ∷ [])
    [] (1 ∷ [])

-- an unselected case is no part of itself: it is enabled, what stands in it is not
in_the_selected_case : enabled_of switched Examples.two_lists (λ n. false) (0 ∷ []) ≡ Some ((1, true) ∷ (2, true) ∷ (3, true) ∷ (4, true) ∷ (5, false) ∷ [])
in_the_selected_case = refl

in_the_other_case : enabled_of switched Examples.two_lists (λ n. false) (1 ∷ []) ≡ Some ((1, true) ∷ (2, true) ∷ (3, false) ∷ (4, true) ∷ (5, true) ∷ [])
in_the_other_case = refl

written_as_selected : first_cases switched ≡ 1 ∷ []
written_as_selected = refl

-- neither is
abbrev unwritten : Interface
unwritten = Examples.interface
    (Examples.top (1 ∷ []) ∷ inside 0 (2 ∷ 3 ∷ []) (sort.switch 0) ∷ inside 1 [] (sort.one_case false) ∷ inside 1 [] (sort.one_case false) ∷ [])
    [] (1 ∷ [])

else_the_first : first_cases unwritten ≡ 0 ∷ []
else_the_first = refl

the_selected_one : is_selected unwritten (1 ∷ []) 3 ≡ true
the_selected_one = refl

not_the_other : is_selected unwritten (1 ∷ []) 2 ≡ false
not_the_other = refl

-- a switch in the repeat over s: one selected case for all rows
abbrev repeated_switch : Interface
repeated_switch = Examples.interface
    (Examples.top (1 ∷ [])
    ∷ Examples.by (Examples.to (codes "s")) (inside 0 (2 ∷ []) (sort.repeated 0 1))
    ∷ inside 1 (3 ∷ 5 ∷ []) (sort.switch 0)
    ∷ inside 2 (4 ∷ []) (sort.one_case false)
    ∷ inside 3 [] sort.field
    ∷ inside 2 [] (sort.one_case false)
    ∷ [])
    (1 ∷ []) (2 ∷ [])

one_case_for_all_rows :
    enabled_of repeated_switch Examples.two_lists (λ n. false) (1 ∷ [])
    ≡ Some ((1, true) ∷ (2, true) ∷ (3, true) ∷ (4, false) ∷ (5, true) ∷ (2, true) ∷ (3, true) ∷ (4, false) ∷ (5, true) ∷ [])
one_case_for_all_rows = refl

-- ---- what changes between two lists: the second case is selected in place of the first one. The cases themselves are told nothing

abbrev told : Notification → List ℕ × ℕ
told n = (n.name, n.target)

abbrev told_by_toggle : Option (List Copy) → Option (List Copy) → Option (List (List ℕ × ℕ))
told_by_toggle (Some before) (Some now) = Some (map told (notifications before now))
told_by_toggle before now = None

toggled :
    told_by_toggle (copies switched (around Examples.two_lists) as_usual (0 ∷ []) []) (copies switched (around Examples.two_lists) as_usual (1 ∷ []) [])
    ≡ Some ((codes "xforms-disabled", 3) ∷ (codes "xforms-enabled", 5) ∷ [])
toggled = refl

-- the group on `.` and what it holds are told, the group first
abbrev grouped : Interface
grouped = Examples.interface
    (Examples.top (1 ∷ []) ∷ Examples.by Examples.itself (inside 0 (2 ∷ []) sort.group) ∷ inside 1 [] sort.field ∷ []) [] []

a_container_is_told :
    told_by_toggle (copies grouped (around Examples.two_lists) as_usual [] []) (copies grouped (around Examples.two_lists) (irrelevant (λ n. n == 1)) [] [])
    ≡ Some ((codes "xforms-disabled", 1) ∷ (codes "xforms-disabled", 2) ∷ [])
a_container_is_told = refl

-- in a group on `.` a repeat over s and a switch with one case: each of these copies is told, the repeat and the case too
abbrev containers : Interface
containers = Examples.interface
    (Examples.top (1 ∷ [])
    ∷ Examples.by Examples.itself (inside 0 (2 ∷ 3 ∷ []) sort.group)
    ∷ Examples.by (Examples.to (codes "s")) (inside 1 [] (sort.repeated 0 1))
    ∷ inside 1 (4 ∷ []) (sort.switch 0)
    ∷ inside 3 [] (sort.one_case false)
    ∷ [])
    (2 ∷ []) (3 ∷ [])

each_container_is_told :
    told_by_toggle (copies containers (around Examples.two_lists) as_usual (0 ∷ []) []) (copies containers (around Examples.two_lists) (irrelevant (λ n. n == 1)) (0 ∷ []) [])
    ≡ Some ((codes "xforms-disabled", 1) ∷ (codes "xforms-disabled", 2) ∷ (codes "xforms-disabled", 3) ∷ (codes "xforms-disabled", 4) ∷ [])
each_container_is_told = refl

-- ---- how many

counted : option_map copy_count (copies Examples.lists (around Examples.two_lists) as_usual [] []) ≡ Some 9
counted = refl
