-- Turns and depth: `while`, `if`, and the budgets.
use Rattle.std.proofs.Common.{◌≡◌, ℕ, true, List, [], ◌∷◌, map, Option, Some, None, refl, codes}
use Rattle.std.specs.Prelude.{Result, Ok, Err}
use Rattle.xf_num.specs.Number.{scale}
use Rattle.json.specs.Print.{escape_byte}
use Rattle.xf_line.specs.declared.event.Event.TheVariants.{Activate}
use Rattle.xf_def_machine.specs.declared.limit.LimitWord.TheVariants as word
use Rattle.xf_def_machine.specs.declared.note.Note.TheVariants.{Message}
use Rattle.xf_def_machine.specs.Program.{Program, Work}
use Rattle.xf_def_machine.specs.Program as work
use Rattle.xf_def_machine.specs.State.{State}
use Rattle.xf_def_machine.specs.Behave.{no_model, within_edges}
use Rattle.xf_def_machine.specs.Dispatch.{dispatch}
use Rattle.xf_def_machine.specs.Events.{plainly}
use Rattle.xf_def_machine.specs.Refusal.{Refusal, Refused, limit, budget, depth}
use Rattle.xf_def_machine.specs.Step.{Outcome}
use Rattle.xf_def_machine.specs.Start.{start}
use Rattle.xf_def_machine.specs.Examples.{profile, bound, during, given_that, to}
use Rattle.xf_def_machine.specs.ExampleOutcomes.{seen, given_out, why, then}
use Rattle.xf_def_machine.specs.ExampleEvents.{twice, as_it_is, insert_a, fewer_than, yes, no}

abbrev activated : Program → Outcome
activated form = then (start profile form []) (Activate (codes "x") [])

-- ---- `while` and `if`

abbrev indexes : State → List ℕ
indexes s = map (λ i. i.index) s.indexes

-- of one a three are made
a_while_that_ends : seen indexes (activated (twice as_it_is (λ x. during (fewer_than 3) (bound (to (codes "a")) x)) insert_a work.all_in_it)) ≡ Some (3 ∷ [])
unfolding scale
a_while_that_ends = refl

a_while_that_is_false : given_out (λ g. g.notes) (activated (twice (during no) as_it_is work.all_in_it work.message)) ≡ Some []
a_while_that_is_false = refl

a_false_if : given_out (λ g. g.notes) (activated (twice as_it_is (given_that no) work.message work.message)) ≡ Some (Message (codes "end") ∷ [])
unfolding escape_byte
a_false_if = refl

a_true_if : given_out (λ g. g.notes) (activated (twice as_it_is (given_that yes) work.message work.message)) ≡ Some (Message [] ∷ Message (codes "end") ∷ [])
unfolding escape_byte
a_true_if = refl

-- ---- budgets

no_end : why (activated (twice (during yes) as_it_is work.all_in_it work.all_in_it)) ≡ Some budget
no_end = refl

abbrev again : Work
again = work.dispatch (record { name = codes "DOMActivate"; target = 3; bubbles = true; is_cancelable = true })

too_deep : why (activated (twice as_it_is as_it_is again work.all_in_it)) ≡ Some depth
too_deep = refl

-- notes of 18 bytes each
too_many_notes : why (activated (twice (during yes) as_it_is work.message work.message)) ≡ Some (limit (word.Notes ∷ []))
unfolding escape_byte
too_many_notes = refl

-- a turn and a level are wanting together: the turn is told
abbrev refusal_of : Result State Refused → Option Refusal
refusal_of (Ok s) = None
refusal_of (Err r) = Some r.why

the_turn_first : seen (λ s. refusal_of (dispatch profile [] 0 true (plainly (codes "e") 0 []) (record s { turns = 0 }))) (start profile (twice as_it_is as_it_is again again) []) ≡ Some (Some budget)
the_turn_first = refl

then_the_depth : seen (λ s. refusal_of (dispatch profile [] 0 true (plainly (codes "e") 0 []) s)) (start profile (twice as_it_is as_it_is again again) []) ≡ Some (Some depth)
then_the_depth = refl

-- ---- what all entries ask: the sum over the models, each by its last rebuild, of which 100 are allowed

abbrev asking : List ℕ → State → State
asking counts s = record s { models = map (λ n. record no_model { asked = n }) counts }

within_the_sum : seen (λ s. refusal_of (within_edges profile (asking (60 ∷ 40 ∷ []) s))) (start profile (twice as_it_is as_it_is again again) []) ≡ Some None
within_the_sum = refl

past_the_sum : seen (λ s. refusal_of (within_edges profile (asking (60 ∷ 41 ∷ []) s))) (start profile (twice as_it_is as_it_is again again) []) ≡ Some (Some (limit (word.Edges ∷ [])))
past_the_sum = refl

-- a false `if` passes over the work of a turn, and the `while` is tested again
a_false_if_in_a_while : why (activated (twice as_it_is (λ x. during yes (given_that no x)) work.message work.all_in_it)) ≡ Some budget
a_false_if_in_a_while = refl

-- so does a true one, up to the limit of the notes
a_true_if_in_a_while : why (activated (twice as_it_is (λ x. during yes (given_that yes x)) work.all_in_it work.all_in_it)) ≡ Some budget
a_true_if_in_a_while = refl
