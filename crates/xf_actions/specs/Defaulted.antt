-- The default action of an event apart from telling its events: what it changes, the events that are told, and the end of a submission, which
-- is told after them.
use Rattle.std.specs.Prelude.{ℕ, List, [], Option, Some, None, option_map, bytes_eq, codes, slice_get, Result, Ok, Err, if◌then◌else◌}
use Rattle.xf_store.specs.declared.answers.Answer.{Answer}
use Rattle.xf_def_syntax.specs.declared.form.Submission.{Submission}
use Rattle.xf_def_machine.specs.Program.{Role, role_at}
use Rattle.xf_def_machine.specs.Program as role
use Rattle.xf_def_machine.specs.Profile.{Profile}
use Rattle.xf_def_machine.specs.State.{State}
use Rattle.xf_def_machine.specs.Refusal.{Refused}
use Rattle.xf_def_machine.specs.Flow.{Run, ◌>>=◌, in_turn, where_some}
use Rattle.xf_def_machine.specs.Behave.{rebuild}
use Rattle.xf_def_machine.specs.Update.{due_revalidation, refresh_cleared}
use Rattle.xf_def_machine.specs.Construct.{reset}
use Rattle.xf_def_machine.specs.Default.{recalculate_now, revalidate_now}
use Rattle.xf_def_machine.specs.Events.{Fired, Tell}
use Rattle.xf_actions.specs.Told.{Telling, refreshed, untold}
use Rattle.xf_actions.specs.Changed as work
use Rattle.xf_actions.specs.Sent.{End, Sent, sent, end_event}
use Rattle.xf_actions.specs.declared.defaults.QuietAction.{QuietAction}
use Rattle.xf_actions.specs.declared.defaults.QuietAction.TheVariants.{Nothing, Rebuild, Recalculate, Revalidate, Reset}
use Rattle.xf_actions.specs.declared.defaults.DefaultAction.{DefaultAction}
use Rattle.xf_actions.specs.declared.defaults.DefaultAction.TheVariants.{Quiet, Refresh, Submit, Send}

-- how the submission of this number ended
pub record Ending : Type 0 where
  pub number : ℕ
  pub of : Option Submission
  pub end : End

-- what a default action does
pub record Defaulted : Type 0 where
  -- those that are told first
  pub events : List Fired
  pub ending : Option Ending
  pub state : State

-- the event that tells the end
abbrev pub told_by_end : Ending → State → Option Fired
told_by_end x s = option_map (λ sub. end_event x.number sub x.end s) x.of

-- the end is told
abbrev pub ended : Tell → Ending → Run
ended tell x s = where_some (told_by_end x s) tell s

-- the events are told, and then the end
abbrev pub concluded : Tell → Defaulted → Result State Refused
concluded tell d = in_turn tell d.events d.state >>= where_some d.ending (ended tell)

-- a default action
abbrev pub Defaults : Type 0
Defaults = State → Result Defaulted Refused

-- none
abbrev pub nothing : Defaults
nothing s = Ok (record { events = []; ending = None; state = s })

-- one that tells these events, and ends no submission
abbrev pub telling : Result (List Fired × State) Refused → Result Defaulted Refused
telling (Err refusal) = Err refusal
telling (Ok (events, s)) = Ok (record { events = events; ending = None; state = s })

-- one that ends a submission
abbrev pub with_end : ℕ → Option Submission → Result Sent Refused → Result Defaulted Refused
with_end k sub (Err refusal) = Err refusal
with_end k sub (Ok w) = Ok (record { events = w.events; ending = Some (record { number = k; of = sub; end = w.end }); state = w.state })

-- ---- of a model

abbrev pub refreshed_now : Profile → ℕ → Telling
refreshed_now p model s = due_revalidation p model s >>= refreshed p (refresh_cleared model)

abbrev pub of_model : Profile → ℕ → List ℕ → Defaults
of_model p model name s =
    if bytes_eq name (codes "xforms-rebuild") then telling (untold (rebuild p model s))
    else if bytes_eq name (codes "xforms-recalculate") then telling (untold (recalculate_now p model s))
    else if bytes_eq name (codes "xforms-revalidate") then telling (untold (revalidate_now p model s))
    else if bytes_eq name (codes "xforms-refresh") then telling (refreshed_now p model s)
    else if bytes_eq name (codes "xforms-reset") then telling (untold (reset p model s))
    else nothing s

-- ---- of a submission, over the answers of the store in the event

abbrev pub submitted : Profile → List Answer → ℕ → Option Submission → Defaults
submitted p answers k None s = nothing s
submitted p answers k (Some sub) s = with_end k (Some sub) (sent p answers sub s)

-- ---- by the target

abbrev pub of_role : Profile → List Answer → List ℕ → Role → Defaults
of_role p answers name (role.model k) s = of_model p k name s
of_role p answers name (role.submission k) s =
    if bytes_eq name (codes "xforms-submit") then submitted p answers k (slice_get s.form.submissions k) s else nothing s
of_role p answers name (role.submit target) s = if bytes_eq name (codes "DOMActivate") then telling (work.sent target s) else nothing s
of_role p answers name role s = nothing s

-- that of an event
abbrev pub defaulted : Profile → List Answer → Fired → Defaults
defaulted p answers e s = of_role p answers e.event.name (role_at s.form e.event.target) s

-- ---- which it is

abbrev pub model_default : ℕ → List ℕ → DefaultAction
model_default k name =
    if bytes_eq name (codes "xforms-rebuild") then Quiet (Rebuild k)
    else if bytes_eq name (codes "xforms-recalculate") then Quiet (Recalculate k)
    else if bytes_eq name (codes "xforms-revalidate") then Quiet (Revalidate k)
    else if bytes_eq name (codes "xforms-refresh") then Refresh k
    else if bytes_eq name (codes "xforms-reset") then Quiet (Reset k)
    else Quiet Nothing

abbrev pub default_of : List ℕ → Role → DefaultAction
default_of name (role.model k) = model_default k name
default_of name (role.submission k) = if bytes_eq name (codes "xforms-submit") then Submit k else Quiet Nothing
default_of name (role.submit target) = if bytes_eq name (codes "DOMActivate") then Send target else Quiet Nothing
default_of name role = Quiet Nothing

abbrev pub done_quietly : Profile → QuietAction → Run
done_quietly p Nothing s = Ok s
done_quietly p (Rebuild k) s = rebuild p k s
done_quietly p (Recalculate k) s = recalculate_now p k s
done_quietly p (Revalidate k) s = revalidate_now p k s
done_quietly p (Reset k) s = reset p k s

abbrev pub done_by_default : Profile → List Answer → DefaultAction → Defaults
done_by_default p answers (Quiet action) s = telling (untold (done_quietly p action s))
done_by_default p answers (Refresh k) s = telling (refreshed_now p k s)
done_by_default p answers (Submit k) s = submitted p answers k (slice_get s.form.submissions k) s
done_by_default p answers (Send target) s = telling (work.sent target s)
