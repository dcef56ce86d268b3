-- What an engine has of the state of the form machine (XForms 1.1, section 4), between events and in one.
use Rattle.std.specs.Prelude.{ℕ, List, []}
use Rattle.xf_name.specs.Bindings.{Bindings}
use Rattle.xf_def_syntax.specs.declared.form.Form.{Form}
use Rattle.xf_def_forest.specs.declared.content.Content.{Content}
use Rattle.xf_def_forest.specs.Forest.{Forest}
use Rattle.xf_def_ui.specs.Copies.{Copy}
use Rattle.xf_def_ui.specs.Index.{Index}
use Rattle.xf_def_machine.specs.State.{Model, State}
use Rattle.xf_def_machine.specs.Tables.{program_of}

pub record Standing : Type 0 where
  pub form : Form
  pub prefixes : Bindings
  -- of each instance the nodes with which it begins, with their depths
  pub documents : List (List (ℕ × Content))
  pub forest : Forest
  -- of each repeat, and of each switch its selected case, from 0
  pub indexes : List Index
  pub cases : List ℕ
  pub models : List Model
  -- those of the last refresh
  pub controls : List Copy
  pub accepted : ℕ
  -- of one event: the turns that are left, the nodes made, the evaluations counted
  pub turns : ℕ
  pub made : ℕ
  pub evaluated : ℕ

-- there are no notes and no calls of the store
abbrev pub state_of : Standing → State
state_of s = record {
  form = program_of s.form s.prefixes s.documents;
  forest = s.forest;
  indexes = s.indexes;
  cases = s.cases;
  models = s.models;
  controls = s.controls;
  accepted = s.accepted;
  notes = [];
  turns = s.turns;
  made = s.made;
  evaluated = s.evaluated;
  calls = [];
}
