-- The elements that events from outside name by their ids.
use Rattle.std.specs.Prelude.{ℕ, suc, Bool, true, ◌&&◌, List, [], ◌∷◌, Option, Some, None, bytes_eq, if◌then◌else◌}
use Rattle.xf_def_syntax.specs.declared.element.Element.{Element}
use Rattle.xf_def_syntax.specs.declared.element.Kind.{Kind}
use Rattle.xf_def_ui.specs.Elements.{is_repeat_sort}
use Rattle.xf_def_ui.specs.Interface.{sort_of}
use Rattle.xf_def_machine.specs.State.{State}
use Rattle.xf_def_machine.specs.Tables.{role_of}
use Rattle.xf_def_machine.specs.Targets.{by_role, is_some_text, is_entry, is_repeat_in, is_trigger, is_model, is_submission}
use Rattle.xf_engine.specs.declared.naming.Wanted.{Wanted}
use Rattle.xf_engine.specs.declared.naming.Wanted.TheVariants.{Entry, Trigger, Repeat, Model, Submission, Any}

-- of the elements of a state, by their numbers
abbrev pub wanted_in : Wanted → State → ℕ → Bool
wanted_in Entry s = by_role s is_entry
wanted_in Trigger s = by_role s is_trigger
wanted_in Repeat s = is_repeat_in s
wanted_in Model s = by_role s is_model
wanted_in Submission s = by_role s is_submission
wanted_in Any s = λ n. true

-- by what an element is
abbrev pub is_wanted : Wanted → Kind → Bool
is_wanted Entry kind = is_entry (role_of kind)
is_wanted Trigger kind = is_trigger (role_of kind)
is_wanted Repeat kind = is_repeat_sort (sort_of kind)
is_wanted Model kind = is_model (role_of kind)
is_wanted Submission kind = is_submission (role_of kind)
is_wanted Any kind = true

abbrev pub is_named : Wanted → List ℕ → Element → Bool
is_named wanted id e = is_some_text id && bytes_eq e.id id && is_wanted wanted e.kind

-- the first of these, of which the first element has this number
abbrev pub named_from : Wanted → List ℕ → ℕ → List Element → Option ℕ
named_from wanted id at [] = None
named_from wanted id at (e ∷ es) = if is_named wanted id e then Some at else named_from wanted id (suc at) es
