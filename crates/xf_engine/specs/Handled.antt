-- An event that is handled and counted.
use Rattle.std.specs.Prelude.{ℕ, ◌≡◌, true, List, ◌++◌, Result, Ok, Err}
use Rattle.xf_store.specs.declared.answers.Answer.{Answer}
use Rattle.xf_store.specs.declared.call.StoreCall.{StoreCall}
use Rattle.xf_store.specs.Replay.{Covers}
use Rattle.xf_def_machine.specs.State.{State}
use Rattle.xf_def_machine.specs.Refusal.{Refused}
use Rattle.xf_def_machine.specs.declared.refusal.Refusal.{Refusal}
use Rattle.xf_def_machine.specs.Told.{Tells}
use Rattle.xf_def_machine.specs.Flow.{◌>>=◌}
use Rattle.xf_def_machine.specs.Replies.{ok_text}
use Rattle.xf_def_machine.specs.Step.{one_more, posted}
use Rattle.xf_actions.specs.declared.fault.EventFault.{EventFault}
use Rattle.xf_actions.specs.declared.fault.EventFault.TheVariants as fault

-- it is counted, so many evaluations count, and its lines are appended to a text
pub record IsHandled (count : ℕ) (after : State) (old new : List ℕ) (given : Result State Refused) : Type 0 where
  pub is : given >>= (λ t. Ok (one_more t)) ≡ Ok after
  pub evaluated : after.evaluated ≡ count
  pub lines : new ≡ old ++ ok_text true after (posted after)

-- it is refused for this reason, after these calls of the store
abbrev pub IsStopped : Refusal → List StoreCall → Result State Refused → Type 0
IsStopped refusal made (Ok t) = ⊥
IsStopped refusal made (Err r) = Tells refusal r.why × (r.calls ≡ made)

abbrev pub Handles : Result ℕ EventFault → State → List ℕ → List ℕ → Result State Refused → Type 0
Handles (Ok count) after old new given = IsHandled count after old new given
Handles (Err (fault.Refused refusal)) after old new given = IsStopped refusal after.calls given
Handles (Err fault.Memory) after old new given = Unit {0}

-- the same for all answers that cover the calls of the store in the event
abbrev pub HandlesOver : Result ℕ EventFault → State → List ℕ → List ℕ → (List Answer → Result State Refused) → Type 0
HandlesOver result after old new given = (answers : List Answer) → Covers answers after.calls → Handles result after old new (given answers)
