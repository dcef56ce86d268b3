-- The action setvalue (XForms 1.1, section 10.2).
use Rattle.std.specs.Prelude.{ℕ, Bool, true, false, not, List, Option, Some, None, Result, Ok}
use Rattle.xf_def_forest.specs.Shape.{has_elements}
use Rattle.xf_def_xpath.specs.Setting.{Meaning}
use Rattle.xf_def_ui.specs.Elements.{element_at}
use Rattle.xf_def_ui.specs.Around.{alone, first_bound}
use Rattle.xf_def_ui.specs.Labels.{words_of}
use Rattle.xf_def_machine.specs.Profile.{Profile}
use Rattle.xf_def_machine.specs.State.{State}
use Rattle.xf_def_machine.specs.Refusal.{Refused, binding, refused, or_long}
use Rattle.xf_def_machine.specs.Flow.{Run, ◌>>=◌, when, where_some}
use Rattle.xf_def_machine.specs.Surround.{interface, all_in}
use Rattle.xf_def_machine.specs.Primitives.{set_text}
use Rattle.xf_def_machine.specs.Properties.{readonly_in, path_in}
use Rattle.xf_def_machine.specs.Acting.{Acting, surroundings, binding_of, text_for}

-- an element with element children has no text of its own: a binding exception (section 4.5.1)
abbrev pub unless_parent : Bool → ℕ → Run → Run
unless_parent false n set s = set s
unless_parent true n set s = refused (binding (path_in s n)) s

-- the text of a node is set, whoever asks for it
abbrev pub set_node : Profile → ℕ → List ℕ → Run
set_node p n text s = unless_parent (has_elements (all_in s) n) n (set_text p n text) s

-- that of `value`, with the bound node as its context, else the content
abbrev pub value_asked : Profile → Acting → State → ℕ → Option Meaning → Result (List ℕ) Refused
value_asked p x s n None = Ok (words_of (interface s) (element_at (interface s) x.element))
value_asked p x s n (Some m) = text_for p x s (alone n) m

-- the text of a node that is not readonly
abbrev pub set_open : Profile → Acting → Option Meaning → ℕ → Run
set_open p x value n s = unless_parent (has_elements (all_in s) n) n (λ t. value_asked p x t n value >>= λ text. set_text p n text t) s

-- no effect where nothing is bound or the node is readonly
abbrev pub set_value : Profile → Acting → Option Meaning → Run
set_value p x value s =
    or_long s (first_bound (surroundings p x s) x.model (binding_of x s) (Some x.focus)) >>= λ bound.
    where_some bound (λ n t. when (not (readonly_in t n)) (set_open p x value n) t) s
