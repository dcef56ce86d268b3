-- What is written for a line of the events: the form machine's reply, over the answers of the store to the calls in the line.
use Rattle.std.specs.Prelude.{ℕ, ◌≡◌, true, List, [], Contains}
use Rattle.xf_cli_stream.specs.declared.answering.AnswerFault.{AnswerFault}
use Rattle.xf_cli_stream.specs.declared.answering.AnswerFault.TheVariants as fault
use Rattle.xf_store.specs.declared.answers.Answer.{Answer}
use Rattle.xf_store.specs.declared.call.StoreCall.{StoreCall}
use Rattle.xf_store.specs.Called.{Called, Told}
use Rattle.xf_def_machine.specs.State.{State}
use Rattle.xf_def_machine.specs.Replies.{Reply, reply, answers_in}
use Rattle.xf_def_form.specs.Formed.{profile}

-- these bytes may be written, that state stands after it, and these calls of the store are made
pub record Gives (r : Reply) (written : List ℕ) (next : State) (made : List StoreCall) : Type 0 where
  pub text : Contains r.texts written
  pub after : r.after ≡ next
  pub calls : r.calls ≡ made

-- so is the reply with the answers that the calls got which were made of the store for it
pub record IsReplied (given : List Answer → Reply) (first last : Told) (written : List ℕ) (next : State) : Type 0 where
  pub made : List StoreCall
  pub called : Called first last [] made
  pub gives : Gives (given (answers_in made)) written next made

-- evaluations are counted
abbrev pub IsReply : State → List ℕ → List ℕ → State → Told → Told → Type 0
IsReply s line text after first last = IsReplied (λ answers. reply profile true s answers line) first last text after

-- the state is as before; some calls of the store may have been made
abbrev pub LeavesSo : State × Told → State × Told → Type 0
LeavesSo first last = (last.0 ≡ first.0) × ((made : List StoreCall) × Called first.1 last.1 [] made)

-- ---- lines of a session that nothing keeps, by its state and what the store tells

abbrev pub Answers : State × Told → List ℕ → List ℕ → State × Told → Type 0
Answers first line text last = IsReply first.0 line text last.0 first.1 last.1

-- where memory was wanting for a reply
abbrev pub Leaves : AnswerFault → State × Told → List ℕ → State × Told → Type 0
Leaves fault.Memory first line last = LeavesSo first last
Leaves fault.Disk first line last = ⊥
