-- The default actions of events (XForms 1.1, section 4): of a submit control, of a model and of a submission.
use Rattle.std.specs.Prelude.{ℕ, List, bytes_eq, codes, Ok, if◌then◌else◌}
use Rattle.xf_store.specs.declared.answers.Answer.{Answer}
use Rattle.xf_def_machine.specs.Program.{Role, role_at}
use Rattle.xf_def_machine.specs.Program as role
use Rattle.xf_def_machine.specs.Profile.{Profile}
use Rattle.xf_def_machine.specs.Flow.{Run, ◌>>=◌, when}
use Rattle.xf_def_machine.specs.Behave.{rebuild, recalculate, revalidate}
use Rattle.xf_def_machine.specs.Update.{due_rebuild, due_recalculation, due_revalidation, refresh, refresh_cleared}
use Rattle.xf_def_machine.specs.Construct.{reset}
use Rattle.xf_def_machine.specs.Events.{Fired, Tell}
use Rattle.xf_def_machine.specs.Choose.{act_send}
use Rattle.xf_def_machine.specs.Exchange.{submit}

-- no default action
abbrev pub nothing : Run
nothing s = Ok s

-- ---- of a model: what is flagged of the earlier behaviours, then the behaviour itself

-- what is flagged of the rebuild, then the recalculation
abbrev pub recalculate_now : Profile → ℕ → Run
recalculate_now p model s = due_rebuild p model s >>= recalculate p model

-- what is flagged before, then the revalidation
abbrev pub revalidate_now : Profile → ℕ → Run
revalidate_now p model s = due_recalculation p model s >>= λ t. Ok (revalidate p model t)

-- what is flagged before, then the refresh
abbrev pub refresh_now : Profile → Tell → ℕ → Run
refresh_now p tell model s = due_revalidation p model s >>= refresh p (refresh_cleared model) tell

-- of an event at a model, by its name
abbrev pub of_model : Profile → Tell → ℕ → List ℕ → Run
of_model p tell model name =
    if bytes_eq name (codes "xforms-rebuild") then rebuild p model
    else if bytes_eq name (codes "xforms-recalculate") then recalculate_now p model
    else if bytes_eq name (codes "xforms-revalidate") then revalidate_now p model
    else if bytes_eq name (codes "xforms-refresh") then refresh_now p tell model
    else if bytes_eq name (codes "xforms-reset") then reset p model
    else nothing

-- ---- by the target

-- by what the target is, over the answers of the store in the event
abbrev pub of_role : Profile → List Answer → Tell → List ℕ → Role → Run
of_role p answers tell name (role.model k) = of_model p tell k name
of_role p answers tell name (role.submission k) = when (bytes_eq name (codes "xforms-submit")) (submit p answers tell k)
of_role p answers tell name (role.submit target) = when (bytes_eq name (codes "DOMActivate")) (act_send tell target)
of_role p answers tell name role = nothing

-- that of an event
abbrev pub default : Profile → List Answer → Tell → Fired → Run
default p answers tell e s = of_role p answers tell e.event.name (role_at s.form e.event.target) s
