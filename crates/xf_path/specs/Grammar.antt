-- The grammar of expressions (XPath 1.0, section 3): signs, ranks of operators, brackets, and the whole text. Each rule has its
-- production's number; b are the bindings of the form, d is the number of decimals.
use Rattle.std.specs.Prelude.{ℕ, zero, suc, if◌then◌else◌, nat_lt, List, length, Result, Ok, Err}
use Rattle.xf_base.specs.Limits.{expression_limit, nesting_limit}
use Rattle.xf_name.specs.Bindings.{Bindings}
use Rattle.xf_def_syntax.specs.declared.expr.Expr.{Expr}
use Rattle.xf_def_syntax.specs.declared.expr.Expr.TheVariants as e
use Rattle.xf_path.specs.declared.fault.ExprKind.TheVariants.{Syntax, Long, Deep}
use Rattle.xf_path.specs.declared.fault.ParseFault.{ParseFault}
use Rattle.xf_path.specs.declared.fault.ParseFault.TheVariants as fault
use Rattle.xf_path.specs.declared.token.Kind.{Kind}
use Rattle.xf_path.specs.declared.token.Kind.TheVariants as k
use Rattle.xf_path.specs.Tokens.{Token, tokens_of}
use Rattle.xf_path.specs.Reading.{Outcome, Rule, kind_of, place_of, ◌>>=◌, ◌>>◌, pure, next_kind, next_place, pass_next, open_bracket, refuse}
use Rattle.xf_path.specs.Calls.{call}
use Rattle.xf_path.specs.Primary as primary
use Rattle.xf_path.specs.Operators.{chain}

-- ---- ranks of operators, over the rule for signs

-- an operand behind signs
abbrev pub negated : ℕ → ℕ → Expr → Expr
negated place zero inner = inner
negated place (suc more) inner = e.Negated place (suc more) inner

-- [27] UnaryExpr, by the rule for its signs and what is behind them
unfoldable pub unary_by : Rule (ℕ × Expr) → Rule Expr
unary_by signs = do
  place ← next_place
  found ← signs
  pure (negated place found.0 found.1)

-- expressions whose operators are of the first few ranks above the union
unfoldable pub ranked : Rule Expr → ℕ → Rule Expr
ranked unary zero = unary
ranked unary (suc rank) = chain (ranked unary rank) (suc rank)

-- [14] Expr
abbrev pub expression_by : Rule (ℕ × Expr) → Rule Expr
expression_by signs = ranked (unary_by signs) 6

-- ---- signs

abbrev pub sign_by : Rule (ℕ × Expr) → Rule Expr → Kind → Rule (ℕ × Expr)
sign_by behind unsigned k.Minus = behind
sign_by behind unsigned _ = unsigned >>= (λ inner. pure (0, inner))

-- one sign more than the rule reads
abbrev pub one_more : Rule (ℕ × Expr) → Rule (ℕ × Expr)
one_more fewer = pass_next >> fewer >>= (λ found. pure (suc found.0, found.1))

-- [18] UnionExpr, where brackets still nest so deep, and what stands in them is read by this rule
abbrev pub union_of : ℕ → Bindings → ℕ → Rule Expr → Rule Expr
union_of d b depth inside = chain (primary.operand d b (open_bracket depth) inside) 0

-- how many signs there are, and the union behind them, where signs and brackets still nest so deep
unfoldable pub signed : ℕ → Bindings → ℕ → Rule (ℕ × Expr)
signed d b zero = next_kind >>= sign_by (refuse Deep) (union_of d b zero (refuse Deep))
signed d b (suc depth) = next_kind >>= sign_by (one_more (signed d b depth)) (union_of d b (suc depth) (expression_by (signed d b depth)))

-- ---- the same at each depth

-- what stands in a bracket that is open
unfoldable pub inside : ℕ → Bindings → ℕ → Rule Expr
inside d b zero = refuse Deep
inside d b (suc depth) = expression_by (signed d b depth)

-- an expression in brackets, from the opening one on
unfoldable pub nested : ℕ → Bindings → ℕ → Rule Expr
nested d b depth = open_bracket depth >> inside d b depth

abbrev pub called : ℕ → Bindings → ℕ → Rule Expr
called d b depth = call b (open_bracket depth) (inside d b depth)

abbrev pub operand : ℕ → Bindings → ℕ → Rule Expr
operand d b depth = primary.operand d b (open_bracket depth) (inside d b depth)

-- what stands on both sides of an operator of a rank
unfoldable pub side : ℕ → Bindings → ℕ → ℕ → Rule Expr
side d b depth zero = operand d b depth
side d b depth (suc rank) = ranked (unary_by (signed d b depth)) rank

-- ---- the whole text

-- nothing may follow the expression
abbrev pub whole_by : Expr → Kind → List Token → Result Expr ParseFault
whole_by tree k.End left = Ok tree
whole_by tree _ left = Err (fault.Expr (place_of left) Syntax)

abbrev pub whole : Outcome Expr → Result Expr ParseFault
whole (Ok p) = whole_by p.0 (kind_of p.1) p.1
whole (Err fault) = Err fault

-- the expression that a text is, under the bindings of a form and with so many decimals, or the fault at the least place
abbrev pub parsed : ℕ → Bindings → List ℕ → Result Expr ParseFault
parsed d b text = if nat_lt expression_limit (length text) then Err (fault.Expr 0 Long) else whole (expression_by (signed d b nesting_limit) (tokens_of text))
