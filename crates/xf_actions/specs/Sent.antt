-- A submission (XForms 1.1, section 11.2) apart from telling its events: what it changes, the notifications that are told, and how it ended,
-- which is told after them.
use Rattle.std.specs.Prelude.{ℕ, Bool, List, [], ◌∷◌, length, codes, nat_le, Option, Some, None, Result, Ok, Err, if◌then◌else◌}
use Rattle.std.specs.Str.{is_utf8}
use Rattle.xf_name.specs.declared.lit.Lit.{Lit}
use Rattle.xf_json.specs.declared.fault.JsonFault.{JsonFault}
use Rattle.xf_json.specs.Element.{lit_in}
use Rattle.xf_store.specs.declared.answers.Answer.{Answer}
use Rattle.xf_store.specs.declared.answers.Answer.TheVariants.{PutDone, Found}
use Rattle.xf_store.specs.declared.call.Asked.{Asked}
use Rattle.xf_store.specs.Replay.{fits, answer_at}
use Rattle.xf_def_syntax.specs.declared.form.Replace.{Replace}
use Rattle.xf_def_syntax.specs.declared.form.Replace.TheVariants as instead
use Rattle.xf_def_syntax.specs.declared.form.Submission.{Submission}
use Rattle.xf_def_forest.specs.Plant.{contents_of}
use Rattle.xf_def_model.specs.Submitted.{Submitted, left, no_data, invalid, submitted}
use Rattle.xf_def_machine.specs.declared.note.Note.TheVariants as note
use Rattle.xf_def_machine.specs.Profile.{Profile}
use Rattle.xf_def_machine.specs.State.{State}
use Rattle.xf_def_machine.specs.Refusal.{Refused, or_long}
use Rattle.xf_def_machine.specs.Flow.{◌>>=◌, in_turn}
use Rattle.xf_def_machine.specs.Surround.{scope, model_holding}
use Rattle.xf_def_machine.specs.Primitives.{set_text, add_note}
use Rattle.xf_def_machine.specs.Properties.{relevant_in, valid_in}
use Rattle.xf_def_machine.specs.Behave.{rebuild, recalculate, revalidate}
use Rattle.xf_def_machine.specs.Update.{reindex, due_revalidation, refresh_cleared}
use Rattle.xf_def_machine.specs.Construct.{replace}
use Rattle.xf_def_machine.specs.Events.{Fired, Tell, fired_at, submission_element}
use Rattle.xf_def_machine.specs.Submit.{target_by, takes_tree, takes_text, has_fault}
use Rattle.xf_def_machine.specs.Exchange.{with_call, unless_many, asked_by, is_store_name, done_told, failed_told}
use Rattle.xf_actions.specs.Told.{Telling, refreshed, untold, where_told}

-- ---- how it ended

pub data End : Type 0 where
  done : End
  -- with the type of the error
  failed : List ℕ → End

pub record Sent : Type 0 where
  -- the notifications that are told first
  pub events : List Fired
  pub end : End
  pub state : State

abbrev pub Sends : Type 0
Sends = State → Result Sent Refused

abbrev pub fails : List ℕ → Sends
fails error s = Ok (record { events = []; end = failed error; state = s })

abbrev pub is_done : State → Result Sent Refused
is_done s = Ok (record { events = []; end = done; state = s })

abbrev pub then_done : Result (List Fired × State) Refused → Result Sent Refused
then_done (Err refusal) = Err refusal
then_done (Ok (events, s)) = Ok (record { events = events; end = done; state = s })

-- ---- what is replaced (step 8)

abbrev pub behaved : Profile → ℕ → Telling
behaved p model s = rebuild p model s >>= recalculate p model >>= λ t. refreshed p (refresh_cleared model) (revalidate p model t)

abbrev pub put_tree : Profile → Lit → ℕ → Telling
put_tree p lit n s =
    replace p n (contents_of s.form.bindings lit 0 0) s >>= reindex p [] >>= where_told (model_holding s n) (behaved p)

abbrev pub put_text : Profile → List ℕ → ℕ → Telling
put_text p text n s = set_text p n text s >>= where_told (model_holding s n) (behaved p)

abbrev pub on_target : (State → ℕ → Bool) → (ℕ → Telling) → Option ℕ → Sends
on_target takes put None s = fails (codes "target-error") s
on_target takes put (Some n) s = if takes s n then then_done (put n s) else fails (codes "target-error") s

-- ---- the response (step 6)

abbrev pub with_tree : Profile → Submission → ℕ → Result Lit JsonFault → Sends
with_tree p sub n (Err fault) s = fails (codes "parse-error") s
with_tree p sub n (Ok lit) s =
    if has_fault s lit then fails (codes "parse-error") s
    else (target_by p sub n s sub.target sub.instance >>= λ target. on_target takes_tree (put_tree p lit) target s)

abbrev pub with_text : Profile → Submission → ℕ → List ℕ → Sends
with_text p sub n bytes s =
    if is_utf8 bytes then (target_by p sub n s sub.target sub.instance >>= λ target. on_target takes_text (put_text p bytes) target s)
    else fails (codes "parse-error") s

abbrev pub responded : Profile → Submission → ℕ → List ℕ → Replace → Sends
responded p sub n bytes instead.All s = then_done (untold (add_note p (note.All sub.resource (length bytes)) s))
responded p sub n bytes instead.Nothing s = is_done s
responded p sub n [] how s = is_done s
responded p sub n (b ∷ bs) instead.Instance s = with_tree p sub n (lit_in (b ∷ bs)) s
responded p sub n (b ∷ bs) instead.Text s = with_text p sub n (b ∷ bs) s

abbrev pub answered : Profile → Submission → ℕ → Answer → Sends
answered p sub n PutDone s = responded p sub n [] sub.replace s
answered p sub n (Found bytes) s = responded p sub n bytes sub.replace s
answered p sub n answer s = fails (codes "resource-error") s

-- ---- up to the response (steps 1 to 5), over the answers of the store in the event

abbrev pub exchanged : Profile → List Answer → Submission → ℕ → Asked → Sends
exchanged p answers sub n asked s =
    unless_many (nat_le p.sends (length s.calls)) s >>= λ t.
    let answer = answer_at (fits asked) answers (length t.calls) in answered p sub n answer (with_call sub.resource asked answer t)

abbrev pub selected : Profile → List Answer → Submission → Submitted → Sends
selected p answers sub no_data s = fails (codes "no-data") s
selected p answers sub (invalid n) s = fails (codes "validation-error") s
selected p answers sub (left n kept) s =
    if is_store_name sub.resource then exchanged p answers sub n (asked_by sub n kept s sub.method) s else fails (codes "resource-error") s

abbrev pub attempted : Profile → List Answer → Submission → Sends
attempted p answers sub s =
    or_long s (submitted (Some p.bounds.string) (scope p s sub.model) (relevant_in s) (valid_in s) s.forest.nodes sub) >>= λ found. selected p answers sub found s

abbrev pub sent : Profile → List Answer → Submission → Sends
sent p answers sub s = due_revalidation p sub.model s >>= attempted p answers sub

-- ---- the event that tells the end

abbrev pub end_event : ℕ → Submission → End → State → Fired
end_event k sub done s = fired_at s (codes "xforms-submit-done") (done_told sub) (submission_element s k)
end_event k sub (failed error) s = fired_at s (codes "xforms-submit-error") (failed_told sub error) (submission_element s k)

-- the notifications are told, then the end
abbrev pub told_sent : Tell → ℕ → Submission → Sent → Result State Refused
told_sent tell k sub w = in_turn tell w.events w.state >>= λ t. tell (end_event k sub w.end t) t
