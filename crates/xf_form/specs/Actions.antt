-- The actions of a form (XForms 1.1, section 10), and when they are called (XML Events, section 3).
use Rattle.std.specs.Prelude.{ℕ, List, codes, unwrap_or, Option, Some, None, option_map, if◌then◌else◌}
use Rattle.xf_def_syntax.specs.declared.action.Action.{Action}
use Rattle.xf_def_syntax.specs.declared.action.DeleteWork.{DeleteWork}
use Rattle.xf_def_syntax.specs.declared.action.DispatchWork.{DispatchWork}
use Rattle.xf_def_syntax.specs.declared.action.Handler.{Handler}
use Rattle.xf_def_syntax.specs.declared.action.InsertWork.{InsertWork}
use Rattle.xf_def_syntax.specs.declared.action.Phase.{Phase}
use Rattle.xf_def_syntax.specs.declared.action.Phase.TheVariants as phase
use Rattle.xf_def_syntax.specs.declared.action.Work.{Work}
use Rattle.xf_def_syntax.specs.declared.action.Work.TheVariants as work
use Rattle.xf_name.specs.Bindings.{Bindings}
use Rattle.xf_form_vocabulary.specs.Attributes.{Shown}
use Rattle.xf_form_vocabulary.specs.declared.attribute.TheConstants as at
use Rattle.xf_form_vocabulary.specs.declared.tag.Tag.{Tag}
use Rattle.xf_form_vocabulary.specs.declared.tag.Tag.TheVariants as tag
use Rattle.xf_form_refusals.specs.declared.classes.Class.TheVariants as class
use Rattle.xf_form_refusals.specs.Rows.{Seen, is_handler}
use Rattle.xf_form.specs.Numbers.{number_of, named_at}
use Rattle.xf_form.specs.Written.{expr_of, expr_at, word_at, is_text, is_true}

-- what is named, else another
abbrev pub or_else : Option ℕ → Option ℕ → Option ℕ
or_else (Some named) other = Some named
or_else None other = other

-- ---- handlers

abbrev pub phase_of : List Shown → Phase
phase_of known = if is_text known at.PHASE (codes "capture") then phase.Capture else phase.Default

abbrev pub handler : List Seen → Seen → List Shown → Handler
handler all r known = record {
  event = word_at known at.EVENT;
  observer = or_else (named_at class.Numbered all known at.OBSERVER) (option_map (number_of all) r.standing.parent);
  target = named_at class.Numbered all known at.EVENT_TARGET;
  phase = phase_of known;
  stops = is_text known at.PROPAGATE (codes "stop");
  cancels = is_text known at.DEFAULT_ACTION (codes "cancel");
}

-- an action outside all others is called by events
abbrev pub handler_of : List Seen → Seen → List Shown → Option Handler
handler_of all r known = if is_handler r then Some (handler all r known) else None

-- ---- what they do

abbrev pub insert_of : ℕ → Bindings → List Shown → InsertWork
insert_of d b known = record {
  context = expr_at d b known at.CONTEXT;
  origin = expr_at d b known at.ORIGIN;
  at = expr_at d b known at.AT;
  is_before = is_text known at.POSITION (codes "before");
}

abbrev pub delete_of : ℕ → Bindings → List Shown → DeleteWork
delete_of d b known = record { context = expr_at d b known at.CONTEXT; at = expr_at d b known at.AT }

-- `targetid` goes before `target`
abbrev pub dispatch_of : List Seen → List Shown → DispatchWork
dispatch_of all known = record {
  name = word_at known at.NAME;
  target = unwrap_or (or_else (named_at class.Numbered all known at.TARGET_ID) (named_at class.Numbered all known at.TARGET)) 0;
  bubbles = is_true known at.BUBBLES;
  is_cancelable = is_true known at.CANCELABLE;
}

-- the submission that is named, else the first of the model in scope
abbrev pub submission_at : List Seen → Option ℕ → List Shown → Option ℕ
submission_at all first known = or_else (named_at class.Submission all known at.SUBMISSION) first

abbrev pub set_index_of : ℕ → Bindings → List Seen → List Shown → Work
set_index_of d b all known = work.SetIndex (unwrap_or (named_at class.Repeat all known at.REPEAT) 0) (expr_of d b (word_at known at.INDEX))

-- by what the element is; the first submission of its model in scope stands where none is named
abbrev pub work_of : ℕ → Bindings → List Seen → Tag → Option ℕ → List Shown → Work
work_of d b all tag.SetValue first known = work.SetValue (expr_at d b known at.VALUE)
work_of d b all tag.Insert first known = work.Insert (insert_of d b known)
work_of d b all tag.Delete first known = work.Delete (delete_of d b known)
work_of d b all tag.SetIndex first known = set_index_of d b all known
work_of d b all tag.Dispatch first known = work.Dispatch (dispatch_of all known)
work_of d b all tag.Load first known = work.Load (word_at known at.RESOURCE)
work_of d b all tag.Toggle first known = work.Toggle (unwrap_or (named_at class.Numbered all known at.CASE) 0)
work_of d b all tag.SetFocus first known = work.SetFocus (unwrap_or (named_at class.Numbered all known at.CONTROL) 0)
work_of d b all tag.Send first known = work.Send (submission_at all first known)
work_of d b all tag.Message first known = work.Message
work_of d b all tag.Reset first known = work.Reset
work_of d b all tag.Rebuild first known = work.Rebuild
work_of d b all tag.Recalculate first known = work.Recalculate
work_of d b all tag.Revalidate first known = work.Revalidate
work_of d b all tag.Refresh first known = work.Refresh
work_of d b all t first known = work.Action

abbrev pub action_of : ℕ → Bindings → List Seen → Seen → Option ℕ → List Shown → Action
action_of d b all r first known = record {
  handler = handler_of all r known;
  condition = expr_at d b known at.IF;
  repetition = expr_at d b known at.WHILE;
  work = work_of d b all r.tag first known;
}
