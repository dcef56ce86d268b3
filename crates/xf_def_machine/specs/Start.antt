-- How a form starts (XForms 1.1, section 4.2): it is constructed; then its models are told so, as one outermost event.
use Rattle.std.specs.Prelude.{ℕ, List, [], codes, length, Result}
use Rattle.xf_store.specs.declared.answers.Answer.{Answer}
use Rattle.xf_def_machine.specs.Profile.{Profile}
use Rattle.xf_def_machine.specs.Program.{Program}
use Rattle.xf_def_machine.specs.State.{State}
use Rattle.xf_def_machine.specs.Refusal.{Refused}
use Rattle.xf_def_machine.specs.Flow.{Run, ◌>>=◌, in_turn}
use Rattle.xf_def_machine.specs.Cycles.{counted_from}
use Rattle.xf_def_machine.specs.Events.{fired_at, model_element}
use Rattle.xf_def_machine.specs.Construct.{construct}
use Rattle.xf_def_machine.specs.Step.{Outcome, outcome, fresh, at_end, tell}

-- an event of this name to a model
abbrev pub tell_model : Profile → List Answer → List ℕ → ℕ → Run
tell_model p answers name model s = tell p answers (fired_at s name [] (model_element s model)) s

-- to each model in document order
abbrev pub tell_models : Profile → List Answer → List ℕ → Run
tell_models p answers name s = in_turn (tell_model p answers name) (counted_from 0 (length s.models)) s

-- the events of the start, over the answers of the store in them: an outermost event of its own, with a whole budget
abbrev pub readied : Profile → List Answer → Run
readied p answers s =
    tell_models p answers (codes "xforms-model-construct") (fresh p s) >>= tell_models p answers (codes "xforms-model-construct-done")
    >>= tell_models p answers (codes "xforms-ready")

-- construction, and then the events of the start
abbrev pub started : Profile → Program → List Answer → Result State Refused
started p form answers = construct p form >>= readied p answers

-- no event is accepted yet
abbrev pub start : Profile → Program → List Answer → Outcome
start p form answers = outcome (at_end p) (started p form answers)
