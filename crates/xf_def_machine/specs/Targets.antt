-- What an event from outside names: an element by its id, and a copy of it by row numbers.
use Rattle.std.specs.Prelude.{ℕ, Bool, true, false, ◌&&◌, List, [], ◌∷◌, ◌++◌, find, zip, Option, Some, None, option_map, bytes_eq, Result, Ok, ◌==◌}
use Rattle.xf_def_syntax.specs.Ordered.{numbered_from}
use Rattle.xf_def_ui.specs.Interface.{Interface, Element, Sort, select}
use Rattle.xf_def_ui.specs.Elements.{element_at, elements_on, path_to, repeats_around, is_repeat_sort}
use Rattle.xf_def_ui.specs.Context.{scope_of}
use Rattle.xf_def_ui.specs.Copies.{Copy}
use Rattle.xf_def_ui.specs.Items.{may_be_set}
use Rattle.xf_def_ui.specs.Named.{named_rows}
use Rattle.xf_def_machine.specs.Profile.{Profile}
use Rattle.xf_def_machine.specs.Program.{Role, role_at}
use Rattle.xf_def_machine.specs.Program as role
use Rattle.xf_def_machine.specs.State.{State}
use Rattle.xf_def_machine.specs.Refusal.{Refusal, Refused, no_target, refused, or_long}
use Rattle.xf_def_machine.specs.Flow.{Run, ◌>>=◌, in_turn}
use Rattle.xf_def_machine.specs.Surround.{interface, quiet}
use Rattle.xf_def_machine.specs.Choose.{set_index}

-- ---- elements

-- the text is not empty
abbrev pub is_some_text : List ℕ → Bool
is_some_text [] = false
is_some_text (b ∷ bs) = true

-- the element with this id that passes the test
abbrev pub element_named : State → (ℕ → Bool) → List ℕ → Option ℕ
element_named s test id =
    option_map (λ e. e.0) (find (λ e. is_some_text id && bytes_eq e.1.id id && test e.0) (numbered_from 0 (interface s).elements))

-- a control whose text is set
abbrev pub is_entry : Role → Bool
is_entry role.entry = true
is_entry as_what = false

-- a trigger or a submit
abbrev pub is_trigger : Role → Bool
is_trigger role.trigger = true
is_trigger (role.submit target) = true
is_trigger as_what = false

-- a model
abbrev pub is_model : Role → Bool
is_model (role.model k) = true
is_model as_what = false

-- a submission
abbrev pub is_submission : Role → Bool
is_submission (role.submission k) = true
is_submission as_what = false

-- of an element, by its number
abbrev pub by_role : State → (Role → Bool) → ℕ → Bool
by_role s test n = test (role_at s.form n)

-- the element is a repeat
abbrev pub is_repeat_in : State → ℕ → Bool
is_repeat_in s n = is_repeat_sort (element_at (interface s) n).sort

-- one must be named
abbrev pub or_no_target : {X : Type 0} → State → Option X → Result X Refused
or_no_target s None = refused no_target s
or_no_target s (Some x) = Ok x

-- ---- copies

-- the copy is that of this element in these rows
abbrev pub is_copy_at : ℕ → List ℕ → Copy → Bool
is_copy_at n rows c = (c.element == n) && bytes_eq c.rows rows

-- the copy in these rows, of the last list of the controls: the rows stand, and are neither too few nor too many
abbrev pub copy_named : Profile → State → ℕ → List ℕ → Result Copy Refused
copy_named p s n numbers =
    or_long s (named_rows (interface s) (quiet p s) n numbers) >>= or_no_target s
    >>= λ rows. or_no_target s (find (is_copy_at n rows) s.controls)

-- unless the truth stands in the way
abbrev pub unless : Bool → Refusal → Run
unless true why s = refused why s
unless false why s = Ok s

-- the items of a select allow the text, or other texts are allowed
abbrev pub takes_text : Sort → Copy → List ℕ → Bool
takes_text (select many is_free) c text = may_be_set many is_free c.items text
takes_text sort c text = true

-- ---- the rows that are named become the indexed ones

-- the model in scope, through these elements
abbrev pub scope_through : Interface → ℕ → List Element → ℕ
scope_through f model [] = model
scope_through f model (e ∷ es) = scope_through f (scope_of f model e) es

-- the model in scope of an element
abbrev pub model_around : Interface → ℕ → ℕ
model_around f n = scope_through f 0 (elements_on f (path_to f n ++ n ∷ []))

-- each as by setindex, the outermost first
abbrev pub take_rows : Profile → ℕ → List ℕ → Run
take_rows p n numbers s =
    in_turn (λ q t. set_index p (model_around (interface t) q.0) q.0 q.1 t) (zip (repeats_around (interface s) n) numbers) s
