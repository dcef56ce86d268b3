-- What expressions are evaluated with in a state of the machine.
use Rattle.std.specs.Prelude.{◌≡◌, Option}
use Rattle.xf_def_ui.specs.Interface.{interface_of}
use Rattle.xf_def_machine.specs.State.{State}
use Rattle.xf_def_machine.specs.Surround.{Told, around, interface}
use Rattle.xf_def_form.specs.Formed.{profile}
use Rattle.xf_eval_context.specs.declared.over.Over.{Over}
use Rattle.xf_eval_context.specs.Over.{around_over}

-- its form, and what surrounds its expressions while this event is handled
pub record IsOver (o : Over) (s : State) (event : Option Told) : Type 0 where
  pub around : around profile s event ≡ around_over o
  pub interface : interface s ≡ interface_of o.form.now
