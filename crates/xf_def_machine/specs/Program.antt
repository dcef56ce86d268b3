-- A form as the machine sees it (XForms 1.1, sections 3, 8 to 11): its interface, its binds, its actions, each expression in place of its text
-- with what it means, and the data with which its instances begin.
use Rattle.std.specs.Prelude.{ℕ, Bool, List, Option, get_or}
use Rattle.xf_name.specs.Bindings.{Bindings}
use Rattle.xf_schema.specs.declared.written.Restriction.{Restriction}
use Rattle.xf_def_syntax.specs.declared.action.DispatchWork.{DispatchWork}
use Rattle.xf_def_syntax.specs.declared.form.Instance.{Instance}
use Rattle.xf_def_syntax.specs.declared.form.Submission.{Submission}
use Rattle.xf_def_forest.specs.declared.content.Content.{Content}
use Rattle.xf_def_xpath.specs.Setting.{Meaning}
use Rattle.xf_def_model.specs.Rules.{Rule}
use Rattle.xf_def_ui.specs.Interface.{Interface}

-- what an insert asks for
pub record InsertBy : Type 0 where
  pub context : Option Meaning
  pub origin : Option Meaning
  pub at : Option Meaning
  -- whether the copies go before the node at the place
  pub is_before : Bool

-- what a delete asks for
pub record DeleteBy : Type 0 where
  pub context : Option Meaning
  pub at : Option Meaning

-- what an action does; what it binds is the binding of its element
pub data Work : Type 0 where
  -- the actions in it, in order
  all_in_it : Work
  -- with the expression `value`
  set_value : Option Meaning → Work
  insert : InsertBy → Work
  delete : DeleteBy → Work
  -- the repeat of this number
  set_index : ℕ → Meaning → Work
  -- the case, or the control, that is this element
  toggle : ℕ → Work
  set_focus : ℕ → Work
  dispatch : DispatchWork → Work
  -- the submission of this number
  send : Option ℕ → Work
  load : List ℕ → Work
  message : Work
  -- an event of this name to the model in scope
  on_model : List ℕ → Work

-- an action, with its `if` and its `while`
pub record Act : Type 0 where
  pub condition : Option Meaning
  pub repetition : Option Meaning
  pub work : Work

-- what an element is for the machine
pub data Role : Type 0 where
  model : ℕ → Role
  submission : ℕ → Role
  action : Act → Role
  -- a control whose text is set from outside
  entry : Role
  trigger : Role
  -- with the submission that it activates
  submit : Option ℕ → Role
  other : Role

-- a form
pub record Program : Type 0 where
  pub interface : Interface
  -- of each element, at the place of its number
  pub roles : List Role
  pub rules : List Rule
  pub instances : List Instance
  pub submissions : List Submission
  -- the types by restriction of its schemas
  pub types : List Restriction
  -- the elements of the models, the instances and the submissions, by their numbers
  pub model_elements : List ℕ
  pub instance_elements : List ℕ
  pub submission_elements : List ℕ
  pub bindings : Bindings
  -- how many decimals its numbers have
  pub decimals : ℕ
  -- of each instance the nodes with their depths
  pub documents : List (List (ℕ × Content))

-- what the element with a number is
abbrev pub role_at : Program → ℕ → Role
role_at form n = get_or form.roles n other
