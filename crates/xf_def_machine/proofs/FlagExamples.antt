-- What flags a behaviour and what marks a node: each change by itself, on a state in which nothing is due.
use Rattle.std.proofs.Common.{◌≡◌, ℕ, true, false, List, [], ◌∷◌, map, Option, Some, None, refl, codes}
use Rattle.std.specs.Prelude.{Result, Ok, Err}
use Rattle.xf_num.specs.Number.{scale}
use Rattle.xf_def_xpath.specs.Examples.{number}
use Rattle.xf_def_ui.specs.Interface as sort
use Rattle.xf_def_ui.specs.Around.{alone}
use Rattle.xf_def_machine.specs.Program.{Program}
use Rattle.xf_def_machine.specs.Program as role
use Rattle.xf_def_machine.specs.State.{Flags, Model, State}
use Rattle.xf_def_machine.specs.Refusal.{Refused}
use Rattle.xf_def_machine.specs.Flow.{Run}
use Rattle.xf_def_machine.specs.Primitives.{set_text, attach, detach}
use Rattle.xf_def_machine.specs.Behave.{no_flags}
use Rattle.xf_def_machine.specs.Acting.{Acting}
use Rattle.xf_def_machine.specs.Choose.{set_index, act_index}
use Rattle.xf_def_machine.specs.Start.{start}
use Rattle.xf_def_machine.specs.Examples
use Rattle.xf_def_machine.specs.Examples.{profile, element, bound, model, instance, to}
use Rattle.xf_def_machine.specs.ExampleOutcomes.{seen}
use Rattle.xf_def_machine.specs.ExampleEvents.{pair}

-- the data ["d",["a","1"],["b","2"]] have the numbers 0 to 4, and a repeat over these nodes
abbrev over : List ℕ → Program
over name = Examples.form
    (element None (1 ∷ 3 ∷ []) sort.host role.other ∷ model (2 ∷ []) ∷ instance
    ∷ bound (to name) (element (Some 0) [] (sort.repeated 0 1) role.other) ∷ []) [] (3 ∷ []) [] pair

abbrev in_models : {X : Type 0} → (Model → X) → Result State Refused → List X
in_models look (Err refusal) = []
in_models look (Ok s) = map look s.models

-- what the change leaves of the state after the start
abbrev left_by : {X : Type 0} → (Model → X) → Program → Run → Option (List X)
left_by look form run = seen (λ s. in_models look (run s)) (start profile form [])

abbrev flags : Model → Flags
flags m = m.flags

abbrev marks : Model → List ℕ × List ℕ
marks m = (m.texts, m.lists)

abbrev all_but_rebuild : Flags
all_but_rebuild = record { rebuild = false; recalculate = true; revalidate = true; refresh = true }

abbrev refresh_alone : Flags
refresh_alone = record no_flags { refresh = true }

abbrev all_four : Flags
all_four = record all_but_rebuild { rebuild = true }

at_first : left_by flags (over (codes "a")) (λ s. Ok s) ≡ Some (no_flags ∷ [])
at_first = refl

-- ---- a text

another_text : left_by flags (over (codes "a")) (set_text profile 1 (codes "5")) ≡ Some (all_but_rebuild ∷ [])
another_text = refl

it_marks_its_node : left_by marks (over (codes "a")) (set_text profile 1 (codes "5")) ≡ Some ((1 ∷ [], []) ∷ [])
it_marks_its_node = refl

-- the text that stands flags all the same, and marks nothing
the_text_that_stands : left_by flags (over (codes "a")) (set_text profile 1 (codes "1")) ≡ Some (all_but_rebuild ∷ [])
the_text_that_stands = refl

it_marks_nothing : left_by marks (over (codes "a")) (set_text profile 1 (codes "1")) ≡ Some (([], []) ∷ [])
it_marks_nothing = refl

-- ---- a tree

cut_off : left_by flags (over (codes "a")) (λ s. Ok (detach 1 s)) ≡ Some (all_four ∷ [])
cut_off = refl

its_parent_is_marked : left_by marks (over (codes "a")) (λ s. Ok (detach 1 s)) ≡ Some (([], 0 ∷ []) ∷ [])
its_parent_is_marked = refl

-- with a cut off, and nothing due of that
abbrev without_a : State → State
without_a s = record (detach 1 s) { models = s.models }

-- in a detached tree nothing is flagged and nothing marked: neither a text nor a tree that comes or goes
a_text_there : left_by flags (over (codes "a")) (λ s. set_text profile 1 (codes "5") (without_a s)) ≡ Some (no_flags ∷ [])
a_text_there = refl

no_mark_there : left_by marks (over (codes "a")) (λ s. set_text profile 1 (codes "5") (without_a s)) ≡ Some (([], []) ∷ [])
no_mark_there = refl

a_tree_there : left_by flags (over (codes "a")) (λ s. attach profile 3 1 0 (record (detach 3 (without_a s)) { models = s.models })) ≡ Some (no_flags ∷ [])
a_tree_there = refl

-- ---- an index

to_another_row : left_by flags (over (codes "a")) (set_index profile 0 3 1) ≡ Some (refresh_alone ∷ [])
to_another_row = refl

-- be it the one that stands, or where there are no rows
without_rows : left_by flags (over (codes "zz")) (set_index profile 0 3 1) ≡ Some (refresh_alone ∷ [])
without_rows = refl

abbrev acting : Acting
acting = record { element = 0; rows = []; model = 0; focus = alone 0; told = [] }

a_number : left_by flags (over (codes "a")) (act_index profile acting 0 (number 7).meaning) ≡ Some (refresh_alone ∷ [])
unfolding scale
a_number = refl

-- a number that is none has no effect
not_a_number : left_by flags (over (codes "a")) (act_index profile acting 0 (to (codes "zz"))) ≡ Some (no_flags ∷ [])
unfolding scale
not_a_number = refl

-- ---- the repeat q over i in a repeat over these nodes

abbrev nested_over : List ℕ → Program
nested_over name = Examples.form
    (element None (1 ∷ 3 ∷ []) sort.host role.other ∷ model (2 ∷ []) ∷ instance
    ∷ bound (to name) (element (Some 0) (4 ∷ []) (sort.repeated 0 1) role.other)
    ∷ bound (to (codes "i")) (element (Some 3) [] (sort.repeated 1 1) role.other) ∷ []) [] (3 ∷ 4 ∷ []) [] pair

-- it is there in a row, though it has no rows itself
in_a_row : left_by flags (nested_over (codes "a")) (act_index profile acting 1 (number 7).meaning) ≡ Some (refresh_alone ∷ [])
unfolding scale
in_a_row = refl

-- without a row around it there is none to set
without_a_copy : left_by flags (nested_over (codes "zz")) (act_index profile acting 1 (number 7).meaning) ≡ Some (no_flags ∷ [])
without_a_copy = refl
