-- The repeats of a form in document order (XForms 1.1, section 9.3.1): each has its place among them as its number, and the repeats around it
-- have lesser ones. So it is of each form whose elements are numbered in document order, as those of every form that is loaded.
use Rattle.std.specs.Prelude.{ℕ, ◌≡◌, ◌<◌, Some, slice_get}
use Rattle.xf_def_syntax.specs.declared.form.Form.{Form}
use Rattle.xf_def_syntax.specs.Ordered.{IsOrdered}
use Rattle.xf_def_model.specs.Pertinent.{AllOf}
use Rattle.xf_def_ui.specs.Elements.{repeats_around}
use Rattle.xf_def_ui.specs.Index.{number_of}
use Rattle.xf_def_ui.specs.Interface.{Interface, interface_of}

-- a repeat with its number among the repeats
pub record StandsInTurn (f : Interface) (number repeat : ℕ) : Type 0 where
  pub is : number_of f repeat ≡ number
  pub around : AllOf (λ r. number_of f r < number) (repeats_around f repeat)

abbrev pub StandInTurn : Interface → Type 0
StandInTurn f = (number repeat : ℕ) → slice_get f.repeats number ≡ Some repeat → StandsInTurn f number repeat

abbrev pub RepeatsInTurn : Type 0
RepeatsInTurn = (form : Form) → IsOrdered form → StandInTurn (interface_of form)
