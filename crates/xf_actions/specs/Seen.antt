-- What the types of the code stand for in the machine.
use Rattle.std.specs.Prelude.{ℕ, ◌≡◌, List, map, Option, Some, None, option_map, slice_get}
use Rattle.xf_def_syntax.specs.declared.form.Form.{Form}
use Rattle.xf_def_model.specs.Places as model
use Rattle.xf_def_ui.specs.Interface.{interface_of}
pub use Rattle.xf_def_ui.specs.Focused.{focus_of}
pub use Rattle.xf_def_ui.specs.Told.{told_of}
use Rattle.xf_def_machine.specs.Program.{Program}
use Rattle.xf_def_machine.specs.Tables.{role_of}
use Rattle.xf_def_machine.specs.State.{State}
use Rattle.xf_def_machine.specs.Events as machine
use Rattle.xf_def_machine.specs.Acting as machine_acting
use Rattle.xf_actions.specs.declared.fired.Fired.{Fired}
use Rattle.xf_actions.specs.declared.acting.Acting.{Acting}
use Rattle.xf_actions.specs.declared.place.Place.{Place}
use Rattle.xf_actions.specs.declared.place.Inserting.{Inserting}
use Rattle.xf_actions.specs.declared.fired.Ending.{Ending}
use Rattle.xf_actions.specs.declared.fired.Concluded.{Concluded}
use Rattle.xf_actions.specs.Sent.{End, done, failed}
use Rattle.xf_actions.specs.Inserting as inserting
use Rattle.xf_actions.specs.Defaulted as defaulted

-- the tables of a form, and the form as the machine sees it
pub record IsProgram (form : Form) (program : Program) : Type 0 where
  pub interface : program.interface ≡ interface_of form
  pub roles : program.roles ≡ map (λ e. role_of e.kind) form.elements
  pub submissions : program.submissions ≡ form.tables.submissions
  pub model_elements : program.model_elements ≡ form.models
  pub submission_elements : program.submission_elements ≡ form.submissions

-- an event
abbrev pub fired_of : Fired → machine.Fired
fired_of f = record {
  event = record { name = f.name; target = f.target; bubbles = f.bubbles; is_cancelable = f.is_cancelable };
  rows = f.rows;
  told = told_of f.properties;
}

-- an action that is called for an event
abbrev pub acting_of : Fired → Acting → machine_acting.Acting
acting_of f a = record {
  element = a.element;
  rows = a.rows;
  model = a.model;
  focus = focus_of a.focus;
  told = told_of f.properties;
}

-- where a copy goes
abbrev pub place_of : Place → model.Place
place_of q = record {
  origin = q.origin.number;
  parent = q.parent.number;
  place = q.place;
  replaces = option_map (λ n. n.number) q.replaces;
  again = q.again;
}

-- an insert whose expressions are evaluated
abbrev pub inserting_of : Inserting → inserting.Inserting
inserting_of i = record { is_before = i.is_before; location = i.location; places = map place_of i.places }

-- how a submission ended, by the type of its error
abbrev pub end_of : Option (List ℕ) → End
end_of None = done
end_of (Some error) = failed error

-- in a form, the end of a submission
abbrev pub ending_of : Program → Ending → defaulted.Ending
ending_of form x = record { number = x.submission; of = slice_get form.submissions x.submission; end = end_of x.failure }

-- what a default action does, in a form
abbrev pub concluded_of : Program → State → Concluded → defaulted.Defaulted
concluded_of form s c = record { events = map fired_of c.events; ending = option_map (ending_of form) c.ending; state = s }
