-- Submission up to the response of the store (XForms 1.1, section 11.2), and the event that tells how it ended.
use Rattle.std.specs.Prelude.{ℕ, Bool, true, false, not, ◌&&◌, ◌||◌, List, [], ◌∷◌, ◌++◌, length, codes, nat_le, Some, option_map, slice_get, unwrap_or, Result, Ok, ◌==◌, if◌then◌else◌}
use Rattle.std.specs.List.{list_all}
use Rattle.xf_base.specs.Limits.{store_name_limit}
use Rattle.xf_json.specs.Printed.{text_of}
use Rattle.xf_store.specs.declared.answers.Answer.{Answer}
use Rattle.xf_store.specs.declared.call.Asked.{Asked}
use Rattle.xf_store.specs.declared.call.Asked.TheVariants as store
use Rattle.xf_store.specs.Replay.{fits, answer_at}
use Rattle.xf_def_syntax.specs.declared.form.Method.{Method}
use Rattle.xf_def_syntax.specs.declared.form.Method.TheVariants.{Put, Post, Get}
use Rattle.xf_def_syntax.specs.declared.form.Submission.{Submission}
use Rattle.xf_def_forest.specs.Printed.{lit_of}
use Rattle.xf_def_xpath.specs.declared.value.Value.TheVariants.{Text}
use Rattle.xf_def_model.specs.Submitted.{Submitted, left, no_data, invalid, submitted}
use Rattle.xf_def_machine.specs.Profile.{Profile}
use Rattle.xf_def_machine.specs.State.{State}
use Rattle.xf_def_machine.specs.Refusal.{Refused, sends, refused, or_long}
use Rattle.xf_def_machine.specs.Flow.{Run, ◌>>=◌, where_some}
use Rattle.xf_def_machine.specs.Surround.{Told, scope}
use Rattle.xf_def_machine.specs.Properties.{relevant_in, valid_in}
use Rattle.xf_def_machine.specs.Update.{due_revalidation}
use Rattle.xf_def_machine.specs.Events.{Tell, fired_at, submission_element}
use Rattle.xf_def_machine.specs.Submit.{Ended, done, failed, Sending, answered}

-- ---- the name (step 4)

-- from the least to the most
abbrev pub is_between : ℕ → ℕ → ℕ → Bool
is_between least most c = nat_le least c && nat_le c most

-- an ASCII letter or digit, `.`, `_` or `-`
abbrev pub is_name_byte : ℕ → Bool
is_name_byte c = is_between 65 90 c || is_between 97 122 c || is_between 48 57 c || (c == 46) || (c == 95) || (c == 45)

-- there is a first byte, and it is no point
abbrev pub begins_well : List ℕ → Bool
begins_well [] = false
begins_well (c ∷ cs) = not (c == 46)

-- so many of them as a name may have, at least one, not beginning with `.`
abbrev pub is_store_name : List ℕ → Bool
is_store_name name = begins_well name && nat_le (length name) store_name_limit && list_all is_name_byte name

-- ---- the call (step 5)

-- the store is called, and what it answers stands with the call
abbrev pub with_call : List ℕ → Asked → Answer → State → State
with_call name asked answer s = record s {
  calls = s.calls ++ record { name = name; asked = asked; answer = answer } ∷ [];
}

-- unless all calls of the event are made
abbrev pub unless_many : Bool → State → Result State Refused
unless_many true s = refused sends s
unless_many false s = Ok s

-- the call, and what its answer makes: of the answers of the event it gets the one at its place
abbrev pub exchange : Profile → List Answer → Tell → Submission → ℕ → Asked → State → Sending
exchange p answers tell sub n asked s =
    unless_many (nat_le p.sends (length s.calls)) s >>= λ t.
    let answer = answer_at (fits asked) answers (length t.calls) in answered p tell sub n (with_call sub.resource asked answer t) answer

-- the bytes of the nodes that are left, or none
abbrev pub sent_bytes : Submission → ℕ → List ℕ → State → List ℕ
sent_bytes sub n kept s =
    if sub.is_serialized then unwrap_or (option_map text_of (lit_of s.form.bindings kept n s.forest.nodes)) [] else []

-- what the store is asked for, by the method
abbrev pub asked_by : Submission → ℕ → List ℕ → State → Method → Asked
asked_by sub n kept s Put = store.Put (sent_bytes sub n kept s)
asked_by sub n kept s Post = store.Put (sent_bytes sub n kept s)
asked_by sub n kept s Get = store.Get

-- ---- the selection (steps 2 and 3)

-- by what is selected: an error, or the call where the resource is a name
abbrev pub selected : Profile → List Answer → Tell → Submission → State → Submitted → Sending
selected p answers tell sub s no_data = Ok (failed (codes "no-data") s)
selected p answers tell sub s (invalid n) = Ok (failed (codes "validation-error") s)
selected p answers tell sub s (left n kept) =
    if is_store_name sub.resource then exchange p answers tell sub n (asked_by sub n kept s sub.method) s else Ok (failed (codes "resource-error") s)

-- steps 2 to 8
abbrev pub attempt : Profile → List Answer → Tell → Submission → State → Sending
attempt p answers tell sub s = or_long s (submitted (Some p.bounds.string) (scope p s sub.model) (relevant_in s) (valid_in s) s.forest.nodes sub) >>= selected p answers tell sub s

-- ---- the whole

-- the properties of the event of a success
abbrev pub done_told : Submission → Told
done_told sub = (codes "resource-uri", Text sub.resource) ∷ []

-- the properties of the event of a failure
abbrev pub failed_told : Submission → List ℕ → Told
failed_told sub error = (codes "resource-uri", Text sub.resource) ∷ (codes "error-type", Text error) ∷ []

-- to the submission's element it is told how it ended
abbrev pub told_end : Tell → ℕ → Submission → Ended → Result State Refused
told_end tell k sub (done s) = tell (fired_at s (codes "xforms-submit-done") (done_told sub) (submission_element s k)) s
told_end tell k sub (failed error s) = tell (fired_at s (codes "xforms-submit-error") (failed_told sub error) (submission_element s k)) s

-- of this submission
abbrev pub submit_by : Profile → List Answer → Tell → ℕ → Submission → Run
submit_by p answers tell k sub s = due_revalidation p sub.model s >>= attempt p answers tell sub >>= told_end tell k sub

-- the submission of this number: first what is flagged of its model is done (step 1)
abbrev pub submit : Profile → List Answer → Tell → ℕ → Run
submit p answers tell k s = where_some (slice_get s.form.submissions k) (submit_by p answers tell k) s
