-- What an action does (XForms 1.1, section 10): by recursion on the parts that are left, and in a loop on the turns.
use Rattle.std.specs.Prelude.{ℕ, zero, suc, length, Option, Some, None, Ok}
use Rattle.xf_def_xpath.specs.Setting.{Meaning}
use Rattle.xf_def_ui.specs.Elements.{actions_in}
use Rattle.xf_def_machine.specs.Program.{Work, Act}
use Rattle.xf_def_machine.specs.Program as work
use Rattle.xf_def_machine.specs.Profile.{Profile}
use Rattle.xf_def_machine.specs.Refusal.{budget, refused}
use Rattle.xf_def_machine.specs.Flow.{Run, ◌>>=◌, when, where_some, in_turn}
use Rattle.xf_def_machine.specs.Surround.{interface}
use Rattle.xf_def_machine.specs.Primitives.{spend}
use Rattle.xf_def_machine.specs.Events.{Fired, Tell}
use Rattle.xf_def_machine.specs.Acting.{Acting, act_at, acting, truth_for}
use Rattle.xf_def_machine.specs.SetValue.{set_value}
use Rattle.xf_def_machine.specs.Insert.{insert}
use Rattle.xf_def_machine.specs.Delete.{delete}
use Rattle.xf_def_machine.specs.Choose.{act_index, toggle, act_dispatch, act_send, act_on_model}
use Rattle.xf_def_machine.specs.Telling.{message, load, focus}

-- ---- `if` and `while` (sections 10.17 and 10.18)

-- one turn of the work, unless its `if` is false
abbrev pub if_true : Profile → Acting → Option Meaning → Run → Run
if_true p x None once s = once s
if_true p x (Some condition) once s = truth_for p x s condition >>= λ b. when b once s

-- each test of a `while` spends a turn, so that no more tests come than there are turns
abbrev pub while_true : ℕ → Profile → Acting → Meaning → Run → Run
while_true zero p x test once s = refused budget s
while_true (suc left) p x test once s =
    spend s >>= λ t. truth_for p x t test >>= λ b. when b (λ u. once u >>= while_true left p x test once) t

-- as long as its `while` holds, or once
abbrev pub repeated : Profile → Acting → Option Meaning → Run → Run
repeated p x None once s = once s
repeated p x (Some test) once s = while_true (suc s.turns) p x test once s

-- ---- the work

-- with what the actions in it do, by their numbers
abbrev pub done_by : Profile → Tell → (ℕ → Run) → Acting → Work → Run
done_by p tell inner x work.all_in_it s = in_turn inner (actions_in (interface s) x.element) s
done_by p tell inner x (work.set_value value) s = set_value p x value s
done_by p tell inner x (work.insert w) s = insert p tell x w s
done_by p tell inner x (work.delete w) s = delete p tell x w s
done_by p tell inner x (work.set_index k m) s = act_index p x k m s
done_by p tell inner x (work.toggle one) s = toggle tell x.model one s
done_by p tell inner x (work.set_focus n) s = focus p n s
done_by p tell inner x (work.dispatch w) s = act_dispatch tell w s
done_by p tell inner x (work.send target) s = act_send tell target s
done_by p tell inner x (work.load resource) s = load p x resource s
done_by p tell inner x work.message s = message p x s
done_by p tell inner x (work.on_model name) s = act_on_model tell name x.model s

-- its context is computed as it begins, once for all turns of a `while`
abbrev pub begun : Profile → Tell → Fired → (ℕ → Run) → ℕ → Act → Run
begun p tell e inner n a s =
    acting p e n s >>= λ one. where_some one (λ x. repeated p x a.repetition (if_true p x a.condition (done_by p tell inner x a.work))) s

-- the action that is this element, of which at most so many stand one in the other
abbrev pub act_within : ℕ → Profile → Tell → Fired → ℕ → Run
act_within zero p tell e n s = Ok s
act_within (suc left) p tell e n s = where_some (act_at s n) (begun p tell e (act_within left p tell e) n) s

-- a handler that is called for this event
abbrev pub act : Profile → Tell → Fired → ℕ → Run
act p tell e n s = act_within (length s.form.roles) p tell e n s
