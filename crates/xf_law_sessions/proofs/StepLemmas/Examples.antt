-- An event over a state with other numbers of nodes, and what comes where a premise of the laws is wanting.
use Rattle.std.proofs.Common.{◌≡◌, ℕ, ◌+◌, zero, List, [], ◌∷◌, map, length, Option, Some, Result, Ok, Err, refl, ap, codes, if◌then◌else◌}
use Rattle.std.specs.Prelude.{◌==◌}
use Rattle.xf_line.specs.declared.event.Event.{Event}
use Rattle.xf_line.specs.declared.event.Event.TheVariants.{Activate}
use Rattle.xf_def_ui.specs.Copies.{Copy}
use Rattle.xf_def_machine.specs.State.{State}
use Rattle.xf_def_machine.specs.Refusal.{Refused}
use Rattle.xf_def_machine.specs.Construct.{unbuilt}
use Rattle.xf_def_machine.specs.Same.{IsSame}
use Rattle.xf_def_machine.specs.Step.{Outcome, accepted, refused, step}
use Rattle.xf_def_machine.specs.Start.{start}
use Rattle.xf_def_machine.specs.AtRest.{IsAtRest}
use Rattle.xf_def_machine.specs.Examples.{profile}
use Rattle.xf_def_machine.specs.ExampleOutcomes.{seen}
use Rattle.xf_def_machine.specs.ExampleRows.{rows}
use Rattle.xf_law_sessions.specs.Same.Going.{image}

-- ---- two rows, the nodes 1 and 2, below the root 3; 4 is the next number

abbrev state_of : Outcome → State
state_of (accepted s posted) = s
state_of (refused why calls) = unbuilt profile rows

abbrev begun : State
begun = state_of (start profile rows [])

abbrev numbers : State → List ℕ
numbers s = map (λ x. x.number) s.forest.nodes

abbrev indexes : State → List (ℕ × Option ℕ)
indexes s = map (λ i. (i.index, i.node)) s.indexes

-- a copy of the last row comes behind it, and is indexed
abbrev add : Event
add = Activate (codes "add") []

abbrev added : State → Outcome
added s = step profile s add []

-- ---- all numbers are 10 more, those too that are yet to come

abbrev ten_more : ℕ → ℕ
ten_more n = n + 10

abbrev other : State
other = image ten_more 14 begun

its_nodes : seen numbers (added begun) ≡ Some (3 ∷ 0 ∷ 1 ∷ 2 ∷ 4 ∷ [])
its_nodes = refl

the_same_nodes : seen numbers (added other) ≡ Some (13 ∷ 10 ∷ 11 ∷ 12 ∷ 14 ∷ [])
the_same_nodes = refl

the_new_row : seen indexes (added other) ≡ Some ((3, Some 14) ∷ [])
the_new_row = refl

-- ---- the next number is already that of the last row, so that the copy gets it too

abbrev taken : ℕ → ℕ
taken n = if n == 2 then 14 else n + 10

-- one of the two is lost
no_third_row : seen numbers (added (image taken 14 begun)) ≡ Some (13 ∷ 10 ∷ 11 ∷ 14 ∷ [])
no_third_row = refl

-- and the other one is taken for the new row
not_the_new_row : seen indexes (added (image taken 14 begun)) ≡ Some ((2, Some 14) ∷ [])
not_the_new_row = refl

-- ---- the same data without the list of the controls: no state at rest, and not the same state

abbrev unshown : State
unshown = record begun { controls = [] }

abbrev count : Result (List Copy) Refused → ℕ
count (Ok list) = length list
count (Err refusal) = 0

not_at_rest : IsAtRest profile unshown → 3 ≡ zero
not_at_rest rests = ap count rests.controls

not_the_same : IsSame begun unshown → 3 ≡ zero
not_the_same same = ap length same.controls
