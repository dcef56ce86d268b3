-- The texts that setvalue and message make (XForms 1.1, sections 10.2 and 10.16).
use Rattle.std.specs.Prelude.{ℕ, List, Option, Some, Result, Ok}
use Rattle.xf_def_forest.specs.Shape.{has_elements}
use Rattle.xf_def_ui.specs.Elements.{element_at}
use Rattle.xf_def_ui.specs.Around.{first_bound}
use Rattle.xf_def_ui.specs.Context.{inside}
use Rattle.xf_def_ui.specs.Labels.{text_in}
use Rattle.xf_def_machine.specs.Profile.{Profile}
use Rattle.xf_def_machine.specs.State.{State}
use Rattle.xf_def_machine.specs.Refusal.{Refused, or_long}
use Rattle.xf_def_machine.specs.Flow.{Run, ◌>>=◌}
use Rattle.xf_def_machine.specs.Surround.{interface, quiet, all_in}
use Rattle.xf_def_machine.specs.Acting.{Acting, surroundings, binding_of}
use Rattle.xf_def_machine.specs.SetValue.{unless_parent}

-- the text of a message, be it empty
abbrev pub message_text : Profile → Acting → State → Result (List ℕ) Refused
message_text p x s =
    or_long s (inside (interface s) (quiet p s) x.rows x.element) >>= λ within.
    or_long s (text_in (interface s) (surroundings p x s) within (element_at (interface s) x.element))

-- the node that an action binds
abbrev pub bound_for : Profile → Acting → State → Result (Option ℕ) Refused
bound_for p x s = or_long s (first_bound (surroundings p x s) x.model (binding_of x s) (Some x.focus))

-- a node whose text may be set: it has no element children
abbrev pub settable : ℕ → Run
settable n s = unless_parent (has_elements (all_in s) n) n (λ t. Ok t) s
