-- How the tables of a form, each expression a syntax tree, are those that the machine sees.
use Rattle.std.specs.Prelude.{ℕ, List, map, option_map, codes}
use Rattle.xf_name.specs.Bindings.{Bindings}
use Rattle.xf_def_syntax.specs.declared.action.Action.{Action}
use Rattle.xf_def_syntax.specs.declared.action.InsertWork.{InsertWork}
use Rattle.xf_def_syntax.specs.declared.action.DeleteWork.{DeleteWork}
use Rattle.xf_def_syntax.specs.declared.action.Work as ast
use Rattle.xf_def_syntax.specs.declared.action.Work.TheVariants as written
use Rattle.xf_def_syntax.specs.declared.element.Control.{Control}
use Rattle.xf_def_syntax.specs.declared.element.Control.TheVariants as control
use Rattle.xf_def_syntax.specs.declared.element.Kind.{Kind}
use Rattle.xf_def_syntax.specs.declared.element.Kind.TheVariants as kind
use Rattle.xf_def_syntax.specs.declared.form.Form.{Form}
use Rattle.xf_def_forest.specs.declared.content.Content.{Content}
use Rattle.xf_def_xpath.specs.Meaning.{meaning}
use Rattle.xf_def_model.specs.Rules.{rule_of}
use Rattle.xf_def_ui.specs.Interface.{interface_of}
use Rattle.xf_def_machine.specs.Program.{InsertBy, DeleteBy, Work, Act, Role, Program, all_in_it, set_value, insert, delete, set_index, toggle, set_focus, dispatch, send, load, message, on_model, model, submission, action, entry, trigger, submit, other}

-- what an insert asks for
abbrev pub insert_by : InsertWork → InsertBy
insert_by w = record {
  context = option_map meaning w.context;
  origin = option_map meaning w.origin;
  at = option_map meaning w.at;
  is_before = w.is_before;
}

-- what a delete asks for
abbrev pub delete_by : DeleteWork → DeleteBy
delete_by w = record { context = option_map meaning w.context; at = option_map meaning w.at }

-- what an action does
abbrev pub work_of : ast.Work → Work
work_of written.Action = all_in_it
work_of (written.SetValue value) = set_value (option_map meaning value)
work_of (written.Insert w) = insert (insert_by w)
work_of (written.Delete w) = delete (delete_by w)
work_of (written.SetIndex k expr) = set_index k (meaning expr)
work_of (written.Toggle n) = toggle n
work_of (written.SetFocus n) = set_focus n
work_of (written.Dispatch w) = dispatch w
work_of (written.Send target) = send target
work_of (written.Load resource) = load resource
work_of written.Message = message
work_of written.Reset = on_model (codes "xforms-reset")
work_of written.Rebuild = on_model (codes "xforms-rebuild")
work_of written.Recalculate = on_model (codes "xforms-recalculate")
work_of written.Revalidate = on_model (codes "xforms-revalidate")
work_of written.Refresh = on_model (codes "xforms-refresh")

-- an action with its `if` and `while`
abbrev pub act_of : Action → Act
act_of a = record { condition = option_map meaning a.condition; repetition = option_map meaning a.repetition; work = work_of a.work }

-- what a control is for the machine
abbrev pub role_of_control : Control → Role
role_of_control control.Input = entry
role_of_control control.Secret = entry
role_of_control control.Textarea = entry
role_of_control (control.Select is_free) = entry
role_of_control (control.SelectOne is_free) = entry
role_of_control control.Trigger = trigger
role_of_control (control.Submit target) = submit target
role_of_control c = other

-- what an element is for the machine
abbrev pub role_of : Kind → Role
role_of (kind.Model k) = model k
role_of (kind.Submission k) = submission k
role_of (kind.Control place c) = role_of_control c
role_of (kind.Action a) = action (act_of a)
role_of sort = other

-- a form, with the data of its instances
abbrev pub program_of : Form → Bindings → List (List (ℕ × Content)) → Program
program_of form bindings documents = record {
  interface = interface_of form;
  roles = map (λ e. role_of e.kind) form.elements;
  rules = map rule_of form.tables.binds;
  instances = form.tables.instances;
  submissions = form.tables.submissions;
  types = form.tables.types;
  model_elements = form.models;
  instance_elements = form.instances;
  submission_elements = form.submissions;
  bindings = bindings;
  decimals = form.decimals;
  documents = documents;
}
