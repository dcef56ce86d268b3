-- The state of the form machine (XForms 1.1, section 4): the data, the indexes and cases, what the models keep, the controls as last shown,
-- and what the event that is handled has done so far.
use Rattle.std.specs.Prelude.{ℕ, Bool, List}
use Rattle.xf_store.specs.declared.call.StoreCall.{StoreCall}
use Rattle.xf_def_forest.specs.Forest.{Forest}
use Rattle.xf_def_model.specs.Applied.{Entry}
use Rattle.xf_def_model.specs.Settled.{Valued}
use Rattle.xf_def_ui.specs.Index.{Index}
use Rattle.xf_def_ui.specs.Copies.{Copy}
use Rattle.xf_def_machine.specs.declared.note.Note.{Note}
use Rattle.xf_def_machine.specs.Program.{Program}

-- the behaviours that are due (section 4.3)
pub record Flags : Type 0 where
  pub rebuild : Bool
  pub recalculate : Bool
  pub revalidate : Bool
  pub refresh : Bool

-- what a model keeps
pub record Model : Type 0 where
  -- the entries and types that the last rebuild gave, and what these read and look at, counted
  pub entries : List Entry
  pub asked : ℕ
  -- the entries that stood at the last recalculation, each with the truth of its value
  pub stood : List Valued
  -- the nodes that the last revalidation found not valid
  pub invalid : List ℕ
  pub flags : Flags
  -- since the last recalculation: the nodes with another text, and those in whose list one was attached or detached
  pub texts : List ℕ
  pub lists : List ℕ

-- the state of a form
pub record State : Type 0 where
  pub form : Program
  pub forest : Forest
  -- of each repeat, and of each switch its selected case, from 0
  pub indexes : List Index
  pub cases : List ℕ
  pub models : List Model
  -- those of the last refresh
  pub controls : List Copy
  -- how many events were accepted
  pub accepted : ℕ
  -- ---- of one event: its notes, the turns left, the nodes made, the evaluations counted, the calls of the store
  pub notes : List Note
  pub turns : ℕ
  pub made : ℕ
  pub evaluated : ℕ
  pub calls : List StoreCall
