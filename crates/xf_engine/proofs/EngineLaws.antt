-- What an event that is handled comes to.
use Rattle.std.proofs.Common.{ℕ, ◌≡◌, ◌++◌, true, List, Result, Ok, Err, ap, sym, ◌∙◌, subst}
use Rattle.std.specs.Result.{IsErrAnd}
use Rattle.xf_store.specs.declared.answers.Answer.{Answer}
use Rattle.xf_store.specs.declared.call.StoreCall.{StoreCall}
use Rattle.xf_line.specs.declared.event.Event.{Event}
use Rattle.xf_def_machine.specs.declared.refusal.Refusal.{Refusal}
use Rattle.xf_def_machine.specs.Flow.{◌>>=◌}
use Rattle.xf_def_machine.specs.Refusal.{Refused}
use Rattle.xf_def_machine.specs.Replies.{ok_text}
use Rattle.xf_def_machine.specs.State.{State}
use Rattle.xf_def_machine.specs.Step.{Outcome, Posted, accepted, outcome, posted, at_end, one_more, changed_by}
use Rattle.xf_def_form.specs.Formed.{profile}
use Rattle.xf_actions.specs.declared.fault.EventFault.{EventFault}
use Rattle.xf_actions.specs.declared.fault.EventFault.TheVariants as fault
use Rattle.xf_actions.specs.Fault.{means}
use Rattle.xf_actions.specs.Performs.{Refuses}
use Rattle.xf_session.specs.Processing.{IsAccepted, IsRefusedAfter}
use Rattle.xf_engine.specs.Handled.{Handles, IsHandled, IsStopped}
use Rattle.xf_engine.proofs.Told.{refused-for}

abbrev fine : State → Result State Refused
fine s = Ok s

-- ---- it is handled

handles-fault : (e : EventFault) (after : State) (old new : List ℕ) (given : Result State Refused) → Refuses (means e) after.calls given → Handles (Err e) after old new given
handles-fault (fault.Refused refusal) after old new given h = refused-for refusal after.calls given h
handles-fault fault.Memory after old new given h = tt

-- a change that is refused
pub unhandled : (r : Result ℕ EventFault) (e : EventFault) (after : State) (old new : List ℕ) (given : Result State Refused)
    → IsErrAnd r (λ y. y ≡ e) → Refuses (means e) after.calls given → Handles r after old new given
unhandled (Ok count) e after old new given is h = absurd is
unhandled (Err y) e after old new given is h = subst (λ f. Handles (Err f) after old new given) (sym is) (handles-fault e after old new given h)

-- no memory for its lines
pub unwritten : (r : Result ℕ EventFault) (after : State) (old new : List ℕ) (given : Result State Refused)
    → IsErrAnd r (λ y. y ≡ fault.Memory) → Handles r after old new given
unwritten (Ok count) after old new given is = absurd is
unwritten (Err y) after old new given is = subst (λ f. Handles (Err f) after old new given) (sym is) tt

pub handled : (answers : List Answer) (before mid after : State) (event : Event) (count : ℕ) (old new : List ℕ) → changed_by profile answers event before ≡ Ok mid
    → after ≡ one_more mid → count ≡ mid.evaluated → new ≡ old ++ ok_text true after (posted after)
    → IsHandled count after old new (changed_by profile answers event before)
handled answers before mid after event count old new e a k w =
    record {
      is = ap (λ r. r >>= (λ t. Ok (one_more t))) e ∙ ap fine (sym a);
      evaluated = ap (λ (s : State). s.evaluated) a ∙ sym k;
      lines = w;
    }

-- ---- the end of an event

pub refused-outcome : (refusal : Refusal) (made : List StoreCall) (ended : State → State) (given : Result State Refused) → IsStopped refusal made given
    → IsRefusedAfter refusal made (outcome ended given)
refused-outcome refusal made ended (Ok t) h = h
refused-outcome refusal made ended (Err r) h = h

-- what is given out of an event that is counted
abbrev Accepts : Outcome → State → List StoreCall → List ℕ → List ℕ → Type 0
Accepts given after made old new = (posted : Posted) × IsAccepted given after made posted × (new ≡ old ++ ok_text true after posted)

pub accepted-as : (given : Result State Refused) (mid : State) (count : ℕ) (old new : List ℕ) → IsHandled count mid old new given
    → Accepts (outcome (λ t. one_more (at_end profile t)) given) (at_end profile mid) mid.calls old new
accepted-as (Err r) mid count old new h = absurd (let e : Err r >>= (λ t. fine (one_more t)) ≡ Ok mid = h.is in cc)
accepted-as (Ok t) mid count old new h =
    let e : fine (one_more t) ≡ Ok mid = h.is in
    let same : one_more t ≡ mid = cc in (
      posted t,
      record { is = ap (λ x. accepted x (posted t)) (ap (at_end profile) same); calls = ap (λ (x : State). x.calls) same },
      h.lines ∙ ap (λ (x : State). old ++ ok_text true (at_end profile mid) (posted x)) (sym same),
    )
