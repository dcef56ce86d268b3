-- The steps of a submission over a world (XForms 1.1, section 11.2), one after the other. What is said of the submission is said where there is one.
use Rattle.std.proofs.Common.{◌≡◌, ℕ, true, List, [], Option, Some, None, option_map, Result, Ok, refl, sym, ap, ◌∙◌, subst}
use Rattle.std.specs.Prelude.{IfSome, is_some}
use Rattle.xf_def_syntax.specs.declared.form.Submission.{Submission}
use Rattle.xf_store.specs.declared.answers.Answer.{Answer}
use Rattle.xf_store.specs.declared.call.Asked.{Asked}
use Rattle.xf_store.specs.Replay.{Covers}
use Rattle.xf_def_machine.specs.Flow.{◌>>=◌}
use Rattle.xf_def_machine.specs.Program.{Program}
use Rattle.xf_def_machine.specs.Refusal.{Refused}
use Rattle.xf_def_machine.specs.State.{State}
use Rattle.xf_actions.specs.declared.fired.Concluded.{Concluded}
use Rattle.xf_actions.specs.Defaulted.{submitted, with_end}
use Rattle.xf_actions.specs.Performs.{Leaves, LeavesOver}
use Rattle.xf_actions.specs.Seen.{concluded_of}
use Rattle.xf_actions.specs.Sent as sent
use Rattle.xf_actions.proofs.Flow.{fine, same-leaves}
use Rattle.xf_actions.proofs.Stores.{covers-same}
use Rattle.xf_def_form.specs.Formed.{profile}
use Rattle.xf_submit.specs.declared.error.ErrorType.{ErrorType}
use Rattle.xf_submit.specs.declared.responding.Outcome.{Outcome}
use Rattle.xf_submit.specs.Errors.{type_text}
use Rattle.xf_submit.specs.Requesting.{Requested, asks, fails}
use Rattle.xf_submit.specs.Responding.{responded_by, seen_outcome}
use Rattle.xf_submit.specs.Steps.{called_in, last_answer, request_in, requested, responded}
use Rattle.xf_submit.proofs.MachineLaws.{answered-shown, attempted-steps, exchanged-steps}
use Rattle.xf_actions.specs.declared.fault.EventFault.{EventFault}
use Rattle.xf_engine_world.specs.declared.submitting.Sent.{Sent}
use Rattle.xf_actions.specs.Fault.{means}
use Rattle.xf_engine_world.specs.Submitting.{sent_of}
use Rattle.xf_engine_world.proofs.SubmitLaws.{failed-is}

-- one that is found is there
pub found-there : {X Y : Type 0} (view : X → Y) (r : Option X) (o : Option Y) → is_some r ≡ true → option_map view r ≡ o → is_some o ≡ true
found-there view None o n e = cc n
found-there view (Some x) o n e = ap is_some (sym e)

-- of what a submission does over answers these are left, in a state
abbrev pub Sends : Option Submission → State → Result Sent EventFault → (List Answer → Submission → Result sent.Sent Refused) → Type 0
Sends o new r given = IfSome o (λ sub. LeavesOver means (sent_of new) new r (λ answers. given answers sub))

-- ---- the request (steps 2 to 4)

pub attempted-fails : (o : Option Submission) (s : State) (w : Sent) (error : ErrorType) → IfSome o (λ sub. request_in profile sub s ≡ Ok (fails (type_text error)))
    → w.events ≡ [] → w.failure ≡ Some error → Sends o s (Ok w) (λ answers sub. sent.attempted profile answers sub s)
attempted-fails None s w error p e f = tt
attempted-fails (Some sub) s w error p e f = λ answers h.
    attempted-steps profile answers sub s ∙ ap (λ x. x >>= λ (r : Requested). requested profile answers sub r s) p ∙ failed-is s w error e f

pub attempted-asks : (o : Option Submission) (s new : State) (r : Result Sent EventFault) (n : ℕ) (asked : Asked) → IfSome o (λ sub. request_in profile sub s ≡ Ok (asks n asked))
    → Sends o new r (λ answers sub. sent.exchanged profile answers sub n asked s) → Sends o new r (λ answers sub. sent.attempted profile answers sub s)
attempted-asks None s new r n asked p q = q
attempted-asks (Some sub) s new r n asked p q = λ answers h.
    same-leaves means (sent_of new) new r _ _ (attempted-steps profile answers sub s ∙ ap (λ x. x >>= λ (a : Requested). requested profile answers sub a s) p) (q answers h)

-- ---- the call (steps 5 and 6)

-- over the answers that cover these calls
abbrev pub Calls : Option Submission → Asked → State → State → Type 0
Calls o asked s mid = IfSome o (λ sub. (answers : List Answer) → Covers answers mid.calls → called_in profile answers sub asked s ≡ Ok mid)

module _ (n : ℕ) (asked : Asked) (s mid : State) where
  -- what comes of the answer, and what is done with it
  abbrev pub Reads : Option Submission → Outcome → Type 0
  Reads o came = IfSome o (λ sub. fine (responded_by mid.form.bindings sub (last_answer mid.calls)) ≡ Ok (seen_outcome came))

  abbrev pub Responds : Option Submission → State → Result Sent EventFault → Outcome → Type 0
  Responds o new r came = IfSome o (λ sub. Leaves means (sent_of new) new r (responded profile sub n (seen_outcome came) mid))

  answered-by : (sub : Submission) (answers : List Answer) → called_in profile answers sub asked s ≡ Ok mid
      → sent.exchanged profile answers sub n asked s ≡ responded profile sub n (responded_by mid.form.bindings sub (last_answer mid.calls)) mid
  answered-by sub answers e =
      exchanged-steps profile answers sub asked s n ∙ ap (λ x. x >>= λ (t : State). sent.answered profile sub n (last_answer t.calls) t) e
      ∙ answered-shown profile sub n mid (last_answer mid.calls)

  exchanged-by : (o : Option Submission) (new : State) (r : Result Sent EventFault) (came : Outcome) → Calls o asked s mid → Reads o came → Responds o new r came → new.calls ≡ mid.calls
      → Sends o new r (λ answers sub. sent.exchanged profile answers sub n asked s)
  exchanged-by None new r came p q l e = tt
  exchanged-by (Some sub) new r came p q l e = λ answers h.
      let same : responded_by mid.form.bindings sub (last_answer mid.calls) ≡ seen_outcome came = cc q in
      same-leaves means (sent_of new) new r _ _
      (answered-by sub answers (p answers (covers-same answers mid.calls new.calls e h)) ∙ ap (λ x. responded profile sub n x mid) same) l

  -- there being the same form behind the call
  pub exchanged-answered : (o later : Option Submission) (new : State) (r : Result Sent EventFault) (came : Outcome) → later ≡ o → Calls o asked s mid → Reads later came → Responds later new r came
      → new.calls ≡ mid.calls → Sends o new r (λ answers sub. sent.exchanged profile answers sub n asked s)
  exchanged-answered o later new r came e p q l h = exchanged-by o new r came p (subst (λ x. Reads x came) e q) (subst (λ x. Responds x new r came) e l) h

-- ---- the whole

-- what stands where its end is told
pub submitted-sent : (o : Option Submission) (k : ℕ) (s new : State) (form : Program) (w : Sent) (c : Concluded) → is_some o ≡ true
    → Sends o new (Ok w) (λ answers sub. sent.sent profile answers sub s)
    → ((sub : Submission) → o ≡ Some sub → with_end k (Some sub) (Ok (sent_of new w)) ≡ Ok (concluded_of form new c))
    → LeavesOver means (concluded_of form new) new (Ok c) (λ answers. submitted profile answers k o s)
submitted-sent None k s new form w c n p q = cc n
submitted-sent (Some sub) k s new form w c n p q = λ answers h. ap (with_end k (Some sub)) (p answers h) ∙ q sub refl
