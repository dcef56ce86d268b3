-- Runs of lines with the answers of the store, what is kept of a state, and the cycle that is reported.
use Rattle.std.proofs.Common.{◌≡◌, ℕ, List, [], ◌∷◌, Option, Some, None, option_map, refl, codes}
use Rattle.json.specs.Print.{escape_byte}
use Rattle.xf_num.specs.Number.{scale}
use Rattle.xf_def_syntax.specs.declared.form.Method.TheVariants.{Put}
use Rattle.xf_def_syntax.specs.declared.form.Replace.TheVariants as replace
use Rattle.xf_line.specs.declared.event.Event.TheVariants.{Activate, Index, Send}
use Rattle.xf_store.specs.declared.answers.Answer.{Answer}
use Rattle.xf_store.specs.declared.answers.Answer.TheVariants as answer
use Rattle.xf_def_machine.specs.Cycles.{reported_cycle}
use Rattle.xf_def_machine.specs.Data.{Data, data_of}
use Rattle.xf_def_machine.specs.Program.{Program}
use Rattle.xf_def_machine.specs.Run.{Item, line, run}
use Rattle.xf_def_machine.specs.Examples.{profile, element_at}
use Rattle.xf_def_machine.specs.ExampleRows.{rows}
use Rattle.xf_def_machine.specs.ExampleSends.{sending, submitting, one}

-- ---- runs: the data that are left, or none

abbrev left_by : Program → List Answer → List Item → Option Data
left_by form answers items = option_map data_of (run profile form answers items)

abbrev how_many : Option Data → Option ℕ
how_many data_given = option_map (λ d. d.accepted) data_given

abbrev del : Item
del = line (Activate (codes "del") []) []

-- no event is accepted by the start; the second row is not the first, but has the same contents
a_start_alone :
    left_by rows [] []
    ≡ Some (record {
      accepted = 0;
      documents = (element_at 0 (codes "d") ∷ element_at 1 (codes "row") ∷ element_at 1 (codes "row") ∷ []) ∷ [];
      indexes = 1 ∷ [];
      cases = [];
    })
a_start_alone = refl

one_line_behind_the_other :
    left_by rows [] (line (Index (codes "r") 2) [] ∷ del ∷ [])
    ≡ Some (record { accepted = 2; documents = (element_at 0 (codes "d") ∷ element_at 1 (codes "row") ∷ []) ∷ []; indexes = 1 ∷ []; cases = [] })
unfolding scale
one_line_behind_the_other = refl

-- an event that is refused is none of a run
none_is_refused : left_by rows [] (del ∷ del ∷ line (Index (codes "r") 1) [] ∷ []) ≡ None
unfolding scale
none_is_refused = refl

-- ---- each with exactly the answers of its own calls

abbrev submits : List Answer → Item
submits answers = line (Send (codes "s")) answers

abbrev submitting_once : Program
submitting_once = submitting (sending Put replace.Nothing (codes "o")) [] one

with_its_answer : how_many (left_by submitting_once [] (submits (answer.PutDone ∷ []) ∷ [])) ≡ Some 1
unfolding escape_byte
with_its_answer = refl

-- a failure is an answer, and the event that tells it is accepted
a_failed_call : how_many (left_by submitting_once [] (submits (answer.Failed ∷ []) ∷ [])) ≡ Some 1
unfolding escape_byte
a_failed_call = refl

no_answer : how_many (left_by submitting_once [] (submits [] ∷ [])) ≡ None
unfolding escape_byte
no_answer = refl

one_too_many : how_many (left_by submitting_once [] (submits (answer.PutDone ∷ answer.PutDone ∷ []) ∷ [])) ≡ None
unfolding escape_byte
one_too_many = refl

one_that_does_not_fit : how_many (left_by submitting_once [] (submits (answer.Absent ∷ []) ∷ [])) ≡ None
unfolding escape_byte
one_that_does_not_fit = refl

-- this start makes no call
too_many_at_the_start : how_many (left_by submitting_once (answer.PutDone ∷ []) []) ≡ None
too_many_at_the_start = refl

-- ---- the cycle that is reported: at each vertex stand those that read from it

none_at_all : reported_cycle ((1 ∷ []) ∷ (2 ∷ []) ∷ [] ∷ []) ≡ None
none_at_all = refl

of_length_one : reported_cycle ([] ∷ (1 ∷ []) ∷ []) ≡ Some (1 ∷ [])
of_length_one = refl

-- each reads from the next: 0 from 2, 2 from 1, 1 from 0
each_reads_from_the_next : reported_cycle ((1 ∷ []) ∷ (2 ∷ []) ∷ (0 ∷ []) ∷ []) ≡ Some (0 ∷ 2 ∷ 1 ∷ [])
each_reads_from_the_next = refl

-- through the least vertex, though a shorter one stands elsewhere
through_the_least : reported_cycle ((1 ∷ []) ∷ (0 ∷ []) ∷ (2 ∷ []) ∷ []) ≡ Some (0 ∷ 1 ∷ [])
through_the_least = refl

-- a vertex that only reads from a cycle is on none
not_through_a_reader : reported_cycle ([] ∷ (0 ∷ 1 ∷ []) ∷ []) ≡ Some (1 ∷ [])
not_through_a_reader = refl

-- of two through one vertex the shorter, and of two of one length the least as a list
the_shorter_one : reported_cycle ((1 ∷ 2 ∷ []) ∷ (0 ∷ []) ∷ (3 ∷ []) ∷ (0 ∷ []) ∷ []) ≡ Some (0 ∷ 1 ∷ [])
the_shorter_one = refl

the_least_as_a_list : reported_cycle ((1 ∷ 2 ∷ []) ∷ (0 ∷ []) ∷ (0 ∷ []) ∷ []) ≡ Some (0 ∷ 1 ∷ [])
the_least_as_a_list = refl
