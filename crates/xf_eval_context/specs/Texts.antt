-- The texts that are joined in an element, as they are put behind others.
use Rattle.std.specs.Prelude.{ℕ, ◌≡◌, List, [], ◌++◌, Option, Some, None, option_map, Result, Ok, Err}
use Rattle.std.specs.List.{flat_map}
use Rattle.xf_def_syntax.specs.declared.element.Part.{Part}
use Rattle.xf_def_syntax.specs.declared.element.Part.TheVariants as part
use Rattle.xf_def_xpath.specs.declared.fault.EvalFault.{EvalFault}
use Rattle.xf_def_xpath.specs.declared.fault.EvalFault.TheVariants.{Long, Memory}
use Rattle.xf_def_xpath.specs.Setting.{Meaning, each}
use Rattle.xf_def_ui.specs.Around.{Around}
use Rattle.xf_def_ui.specs.Context.{Inside, context_in}
use Rattle.xf_def_ui.specs.Elements.{element_at}
use Rattle.xf_def_ui.specs.Interface.{Interface, Sort, inline, item_value}
use Rattle.xf_def_ui.specs.Labels.{piece_text, pieces, printed_by}

-- of the pieces in these parts, through so many host elements one inside the other
abbrev pub joined : Interface → Around → Inside → ℕ → List Part → Option (List ℕ)
joined f a s most parts = option_map (flat_map (λ text. text)) (each (piece_text f a s) (pieces most f parts))

-- a text behind another
abbrev pub behind : List ℕ → Option (List ℕ) → Option (List ℕ)
behind before text = option_map (λ t. before ++ t) text

-- it was put there, or it was too long
abbrev pub Joins : {X : Type 0} → Result X EvalFault → List ℕ → List ℕ → Option (List ℕ) → Type 0
Joins (Ok x) before after given = behind before given ≡ Some after
Joins (Err Long) before after given = given ≡ None
Joins (Err Memory) before after given = Unit {0}

-- the text of an element that is an output in a text, else none
abbrev pub printed_in : Interface → Around → Inside → ℕ → Sort → Option (List ℕ)
printed_in f a s n (inline expr) = let e = element_at f n in printed_by a (context_in f a s e) e.binding (inline expr)
printed_in f a s n sort = Some []

abbrev pub own_printed : Interface → Around → Inside → Part → Option (List ℕ)
own_printed f a s (part.Text text) = Some []
own_printed f a s (part.Element n) = printed_in f a s n (element_at f n).sort

-- the expression of a value of an item
abbrev pub value_in : Sort → Option Meaning
value_in (item_value m) = m
value_in sort = None
