-- The actions that add a note (XForms 1.1, sections 10.7, 10.15 and 10.16).
use Rattle.std.specs.Prelude.{ℕ, List, Some, Result, Ok}
use Rattle.xf_def_ui.specs.Interface.{Bound, unbound}
use Rattle.xf_def_ui.specs.Elements.{element_at}
use Rattle.xf_def_ui.specs.Context.{inside}
use Rattle.xf_def_ui.specs.Labels.{text_in, bound_text}
use Rattle.xf_def_machine.specs.declared.note.Note.TheVariants.{Message, Load, Focus}
use Rattle.xf_def_machine.specs.Profile.{Profile}
use Rattle.xf_def_machine.specs.State.{State}
use Rattle.xf_def_machine.specs.Refusal.{Refused, or_long}
use Rattle.xf_def_machine.specs.Flow.{Run, ◌>>=◌, where_some}
use Rattle.xf_def_machine.specs.Surround.{interface, quiet}
use Rattle.xf_def_machine.specs.Primitives.{add_note}
use Rattle.xf_def_machine.specs.Acting.{Acting, surroundings, binding_of}
use Rattle.xf_def_machine.specs.Choose.{named_copy}

-- a note with the text of the message, be it empty
abbrev pub message : Profile → Acting → Run
message p x s =
    or_long s (inside (interface s) (quiet p s) x.rows x.element) >>= λ within.
    or_long s (text_in (interface s) (surroundings p x s) within (element_at (interface s) x.element)) >>= λ text. add_note p (Message text) s

-- the text of what is bound, else the resource
abbrev pub loaded_text : Profile → Acting → List ℕ → State → Bound → Result (List ℕ) Refused
loaded_text p x resource s unbound = Ok resource
loaded_text p x resource s binding = or_long s (bound_text (surroundings p x s) (record { model = x.model; focus = Some x.focus }) binding)

-- a note with that text
abbrev pub load : Profile → Acting → List ℕ → Run
load p x resource s = loaded_text p x resource s (binding_of x s) >>= λ text. add_note p (Load text) s

-- of a control inside repeats one of which has the index 0 there is none
abbrev pub focus : Profile → ℕ → Run
focus p n s = where_some (named_copy s n) (λ rows t. add_note p (Focus (element_at (interface t) n).id) t) s
