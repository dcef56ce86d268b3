-- What inserts and deletes make of rows and indexes.
use Rattle.std.proofs.Common.{◌≡◌, ℕ, List, [], ◌∷◌, map, Some, refl, codes}
use Rattle.xf_num.specs.Number.{scale}
use Rattle.xf_line.specs.declared.event.Event.{Event}
use Rattle.xf_line.specs.declared.event.Event.TheVariants.{Activate, Index, Reset}
use Rattle.xf_def_machine.specs.State.{State}
use Rattle.xf_def_machine.specs.Refusal.{bad_index}
use Rattle.xf_def_machine.specs.Step.{Outcome}
use Rattle.xf_def_machine.specs.Start.{start}
use Rattle.xf_def_machine.specs.Examples.{profile}
use Rattle.xf_def_machine.specs.ExampleOutcomes.{seen, why, then}
use Rattle.xf_def_machine.specs.ExampleRows.{rows}

abbrev first : Outcome
first = start profile rows []

abbrev add : Event
add = Activate (codes "add") []

abbrev del : Event
del = Activate (codes "del") []

abbrev indexes : State → List ℕ
indexes s = map (λ i. i.index) s.indexes

abbrev numbers : State → List ℕ
numbers s = map (λ x. x.number) s.forest.nodes

the_first_row : seen indexes first ≡ Some (1 ∷ [])
the_first_row = refl

-- the root comes over the document element, so that it has a later number
the_nodes : seen numbers first ≡ Some (3 ∷ 0 ∷ 1 ∷ 2 ∷ [])
the_nodes = refl

-- the new row stands behind the last one, and becomes the indexed one
after_an_insert : seen indexes (then first add) ≡ Some (3 ∷ [])
after_an_insert = refl

the_new_row_is_last : seen numbers (then first add) ≡ Some (3 ∷ 0 ∷ 1 ∷ 2 ∷ 4 ∷ [])
the_new_row_is_last = refl

-- the indexed row goes, and the next one takes its place
after_a_delete : seen indexes (then first del) ≡ Some (1 ∷ [])
unfolding scale
after_a_delete = refl

the_first_row_is_gone : seen numbers (then first del) ≡ Some (3 ∷ 0 ∷ 2 ∷ [])
unfolding scale
the_first_row_is_gone = refl

-- the last row goes: the index is held to the rows that are left
after_the_last : seen indexes (then (then first (Index (codes "r") 2)) del) ≡ Some (1 ∷ [])
unfolding scale
after_the_last = refl

-- without rows the index is 0, and no number is one of the rows
no_rows : seen indexes (then (then first del) del) ≡ Some (0 ∷ [])
unfolding scale
no_rows = refl

no_index : why (then (then (then first del) del) (Index (codes "r") 1)) ≡ Some bad_index
unfolding scale
no_index = refl

-- ---- what a reset puts back counts as nothing just inserted: the old index counts, held to the rows

after_a_reset : seen indexes (then first (Reset [])) ≡ Some (1 ∷ [])
after_a_reset = refl

at_the_old_index : seen indexes (then (then first (Index (codes "r") 2)) (Reset [])) ≡ Some (2 ∷ [])
at_the_old_index = refl

-- also where a reset brings a row back
held_to_what_is_back : seen indexes (then (then first del) (Reset [])) ≡ Some (1 ∷ [])
unfolding scale
held_to_what_is_back = refl

-- the row that a repeat gets after it had none
from_none : seen indexes (then (then (then first del) del) (Reset [])) ≡ Some (1 ∷ [])
unfolding scale
from_none = refl
