-- Operands of operators (XPath 1.0, sections 3.1 to 3.3): primary expressions with predicates and steps behind them, or location
-- paths. A rule `nested` reads an expression in brackets from its opening bracket on; d is the number of decimals.
use Rattle.std.specs.Prelude.{ℕ, ◌==◌, option_map, Bool, true, false, if◌then◌else◌, List, [], ◌∷◌, encode_utf8_all, Option, Some, None, is_none}
use Rattle.std.specs.Str.{chars}
use Rattle.xf_num.specs.Written.{read_at}
use Rattle.xf_name.specs.Bindings.{Bindings}
use Rattle.xf_def_syntax.specs.declared.expr.Expr.{Expr}
use Rattle.xf_def_syntax.specs.declared.expr.Expr.TheVariants as e
use Rattle.xf_path.specs.declared.token.Kind.{Kind}
use Rattle.xf_path.specs.declared.token.Kind.TheVariants as k
use Rattle.xf_path.specs.Reading.{Rule, kind_of, text_of, ◌>>=◌, ◌>>◌, pure, next_kind, next_place, take_next, pass_next, close}
use Rattle.xf_path.specs.Steps.{predicates, type_called}
use Rattle.xf_path.specs.Paths.{separator, steps, path}
use Rattle.xf_path.specs.Calls.{call}

-- ---- primary expressions

-- [30] Number
unfoldable pub number : ℕ → Rule Expr
number d = do
  place ← next_place
  written ← take_next
  pure (e.Number place (read_at d written))

-- what stands before and after the first byte that is the quote
abbrev pub at_quote : ℕ → List ℕ → Option (List ℕ × List ℕ)
at_quote quote [] = None
at_quote quote (b ∷ bs) = if b == quote then Some ([], bs) else option_map (λ p. (b ∷ p.0, p.1)) (at_quote quote bs)

abbrev pub before_by : List ℕ → Option (List ℕ × List ℕ) → List ℕ
before_by bs None = bs
before_by bs (Some (before, after)) = before

abbrev pub before_quote : ℕ → List ℕ → List ℕ
before_quote quote bs = before_by bs (at_quote quote bs)

-- behind a quote, up to the next one of its kind
abbrev pub between : List ℕ → List ℕ
between [] = []
between (c ∷ cs) = if c == 34 then before_quote 34 (encode_utf8_all cs) else (if c == 39 then before_quote 39 (encode_utf8_all cs) else [])

-- a literal without its quotes
unfoldable pub unquoted : List ℕ → List ℕ
unquoted text = between (chars text)

-- [29] Literal
unfoldable pub literal : Rule Expr
literal = do
  place ← next_place
  written ← take_next
  pure (e.Literal place (unquoted written))

-- an expression in parentheses, where the rule reads it from its opening one on
unfoldable pub grouped : Rule Expr → Rule Expr
grouped nested = nested >>= (λ inner. close >> pure inner)

abbrev pub primary_by : ℕ → Rule Expr → Rule Expr → Kind → Rule Expr
primary_by d nested called k.Open = grouped nested
primary_by d nested called k.Number = number d
primary_by d nested called k.Literal = literal
primary_by d nested called _ = called

-- [15] PrimaryExpr
unfoldable pub primary : ℕ → Rule Expr → Rule Expr → Rule Expr
primary d nested called = next_kind >>= primary_by d nested called

-- the name of no node type
abbrev pub is_function : List ℕ → Bool
is_function text = is_none (type_called text)

abbrev pub begins_primary : Kind → List ℕ → Bool
begins_primary k.Open text = true
begins_primary k.Number text = true
begins_primary k.Literal text = true
begins_primary k.Called text = is_function text
begins_primary _ text = false

-- ---- operands

-- [20] FilterExpr: an expression and its predicates; without any it stands by itself
abbrev pub filter_of : Expr → List Expr → Expr
filter_of first [] = first
filter_of first (p ∷ ps) = e.Filter first (p ∷ ps)

abbrev pub onward_by : Bindings → Rule Expr → Expr → Option Bool → Rule Expr
onward_by b nested first None = pure first
onward_by b nested first (Some is_below) = pass_next >> steps b nested is_below >>= (λ found. pure (e.From first found))

-- [19] PathExpr: the steps that follow an expression, if any
unfoldable pub onward : Bindings → Rule Expr → Expr → Rule Expr
onward b nested first = next_kind >>= (λ kind. onward_by b nested first (separator kind))

unfoldable pub filtered : ℕ → Rule Expr → Rule Expr → Rule Expr
filtered d nested called = do
  first ← primary d nested called
  found ← predicates nested
  pure (filter_of first found)

abbrev pub operand_by : ℕ → Bindings → Rule Expr → Rule Expr → Bool → Rule Expr
operand_by d b nested called true = filtered d nested called >>= onward b nested
operand_by d b nested called false = path b nested

-- [19] PathExpr: one that begins as a primary expression does, or a location path
unfoldable pub operand : ℕ → Bindings → Rule (Unit {0}) → Rule Expr → Rule Expr
operand d b opened inside = λ ts. operand_by d b (opened >> inside) (call b opened inside) (begins_primary (kind_of ts) (text_of ts)) ts
