-- The parts of an action: its `if`, its `while` and its work, as they stand with its element.
use Rattle.std.specs.Prelude.{ℕ, Bool, true, false, List, [], map, get_or, Option, Some, None, Result, Ok}
use Rattle.xf_def_syntax.specs.declared.form.Form.{Form}
use Rattle.xf_def_xpath.specs.Setting.{Meaning}
use Rattle.xf_def_machine.specs.Program.{Work, Act, InsertBy, DeleteBy, all_in_it, set_value, insert, delete, set_index, load, other}
use Rattle.xf_def_machine.specs.Tables.{role_of}
use Rattle.xf_def_machine.specs.Profile.{Profile}
use Rattle.xf_def_machine.specs.State.{State}
use Rattle.xf_def_machine.specs.Refusal.{Refused}
use Rattle.xf_def_machine.specs.Flow.{Run}
use Rattle.xf_def_machine.specs.Events.{Tell}
use Rattle.xf_def_machine.specs.Acting.{Acting, act_in, truth_for}
use Rattle.xf_def_machine.specs.Act.{if_true, repeated, done_by}

-- the action of the tables of a form that is this element
abbrev pub action_at : Form → ℕ → Option Act
action_at form n = act_in (get_or (map (λ e. role_of e.kind) form.elements) n other)

-- ---- of an element: one that is no action has none

abbrev pub work_in : Option Act → Work
work_in None = all_in_it
work_in (Some a) = a.work

abbrev pub condition_in : Option Act → Option Meaning
condition_in None = None
condition_in (Some a) = a.condition

abbrev pub repetition_in : Option Act → Option Meaning
repetition_in None = None
repetition_in (Some a) = a.repetition

-- the expression `value` of a setvalue
abbrev pub value_of_work : Work → Option Meaning
value_of_work (set_value value) = value
value_of_work work = None

abbrev pub value_in : Option Act → Option Meaning
value_in o = value_of_work (work_in o)

-- the expression `index` of a setindex
abbrev pub index_of_work : Work → Option Meaning
index_of_work (set_index k m) = Some m
index_of_work work = None

abbrev pub index_in : Option Act → Option Meaning
index_in o = index_of_work (work_in o)

-- what an insert and a delete ask for
abbrev pub insert_of_work : Work → InsertBy
insert_of_work (insert w) = w
insert_of_work work = record { context = None; origin = None; at = None; is_before = false }

abbrev pub insert_in : Option Act → InsertBy
insert_in o = insert_of_work (work_in o)

abbrev pub delete_of_work : Work → DeleteBy
delete_of_work (delete w) = w
delete_of_work work = record { context = None; at = None }

abbrev pub delete_in : Option Act → DeleteBy
delete_in o = delete_of_work (work_in o)

-- the `resource` of a load
abbrev pub resource_of_work : Work → List ℕ
resource_of_work (load resource) = resource
resource_of_work work = []

abbrev pub resource_in : Option Act → List ℕ
resource_in o = resource_of_work (work_in o)

abbrev pub is_block : Work → Bool
is_block all_in_it = true
is_block work = false

-- ---- what they do

-- a test that is not written holds
abbrev pub holds : Profile → Acting → Option Meaning → State → Result Bool Refused
holds p x None s = Ok true
holds p x (Some test) s = truth_for p x s test

-- the work once, if its `if` holds
unfoldable pub once_done : Profile → Tell → (ℕ → Run) → Acting → Option Act → Run
once_done p tell inner x o s = if_true p x (condition_in o) (done_by p tell inner x (work_in o)) s

-- and as often as its `while` holds
unfoldable pub acted : Profile → Tell → (ℕ → Run) → Acting → Option Act → Run
acted p tell inner x o s = repeated p x (repetition_in o) (once_done p tell inner x o) s
