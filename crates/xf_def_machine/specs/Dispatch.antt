-- Dispatch (DOM Level 2 Events, section 1.2): the handlers of an event in order, then its default action, by recursion on the depth that is
-- left. Where no action and no update is running, an update falls due after each handler and after the default action. Its submissions are over
-- the answers of the store in the event of which it is a part.
use Rattle.std.specs.Prelude.{ℕ, zero, suc, Bool, false, List}
use Rattle.xf_store.specs.declared.answers.Answer.{Answer}
use Rattle.xf_def_ui.specs.Calls.{calls}
use Rattle.xf_def_machine.specs.Profile.{Profile}
use Rattle.xf_def_machine.specs.Refusal.{depth, refused}
use Rattle.xf_def_machine.specs.Flow.{Run, ◌>>=◌, when, in_turn}
use Rattle.xf_def_machine.specs.Surround.{interface}
use Rattle.xf_def_machine.specs.Primitives.{spend}
use Rattle.xf_def_machine.specs.Update.{update}
use Rattle.xf_def_machine.specs.Events.{Fired, Tell}
use Rattle.xf_def_machine.specs.Act.{act}
use Rattle.xf_def_machine.specs.Default.{default}

-- what is dispatched further in, and whether no action and no update is running then
abbrev pub Further : Type 0
Further = Bool → Tell

-- an action runs inside the handler
abbrev pub handle : Profile → Further → Bool → Fired → ℕ → Run
handle p further is_idle e n s = act p (further false) e n s >>= when is_idle (update p (further false))

-- a default action is no action
abbrev pub after_all : Profile → List Answer → Further → Bool → Fired → Run
after_all p answers further is_idle e s = default p answers (further is_idle) e s >>= when is_idle (update p (further false))

-- the handlers in order, then the default action, unless it is cancelled
abbrev pub handled : Profile → List Answer → Further → Bool → Fired → Run
handled p answers further is_idle e s =
    let called = calls (interface s) e.event in
    in_turn (handle p further is_idle e) called.handlers s >>= when called.with_default (after_all p answers further is_idle e)

-- a turn is spent before the depth is asked for
abbrev pub dispatch : Profile → List Answer → ℕ → Further
dispatch p answers zero is_idle e s = spend s >>= refused depth
dispatch p answers (suc left) is_idle e s = spend s >>= handled p answers (dispatch p answers left) is_idle e
