-- What the attributes of an element say, which are known by their numbers. d is the number of decimals.
use Rattle.std.specs.Prelude.{ℕ, Bool, false, not, List, [], bytes_eq, codes, is_some, Option, Some, None, option_map, unwrap_or, Result, Ok, Err, if◌then◌else◌}
use Rattle.xf_def_syntax.specs.declared.expr.Expr.{Expr}
use Rattle.xf_def_syntax.specs.declared.expr.Expr.TheVariants as e
use Rattle.xf_def_syntax.specs.declared.expr.Start.TheVariants as start
use Rattle.xf_name.specs.Bindings.{Bindings}
use Rattle.xf_path.specs.Grammar.{parsed}
use Rattle.xf_path.specs.declared.fault.ParseFault.{ParseFault}
use Rattle.xf_form_vocabulary.specs.Attributes.{Shown, text_in}
use Rattle.xf_form_vocabulary.specs.Rules.{wanted_of}
use Rattle.xf_form_vocabulary.specs.declared.tag.Tag.{Tag}

-- ---- expressions

-- the context node
abbrev pub here : Expr
here = e.Path 0 start.Context []

-- a form with a text that is to be an expression and is none is refused
abbrev pub expr_or_here : Result Expr ParseFault → Expr
expr_or_here (Ok expr) = expr
expr_or_here (Err fault) = here

-- the expression that a text is, with numbers of so many decimals
abbrev pub expr_of : ℕ → Bindings → List ℕ → Expr
expr_of d b text = expr_or_here (parsed d b text)

-- the expression that an attribute is, where it is written
abbrev pub expr_at : ℕ → Bindings → List Shown → ℕ → Option Expr
expr_at d b known code = option_map (expr_of d b) (text_in code known)

-- ---- texts

-- the text of an attribute, empty where it is not written
abbrev pub word_at : List Shown → ℕ → List ℕ
word_at known code = unwrap_or (text_in code known) []

abbrev pub is_same : List ℕ → Option (List ℕ) → Bool
is_same wanted None = false
is_same wanted (Some text) = bytes_eq text wanted

-- the attribute is written with this text
abbrev pub is_text : List Shown → ℕ → List ℕ → Bool
is_text known code wanted = is_same wanted (text_in code known)

-- it is not written as false
abbrev pub is_true : List Shown → ℕ → Bool
is_true known code = not (is_text known code (codes "false"))

-- ---- ids

-- the id that an attribute names, where it names an element at one of this kind
abbrev pub id_at : Tag → List Shown → ℕ → Option (List ℕ)
id_at t known code = if is_some (wanted_of t false code) then text_in code known else None
