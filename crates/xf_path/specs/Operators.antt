-- Operators (XPath 1.0, sections 3.3 to 3.5).
use Rattle.std.specs.Prelude.{ℕ, zero, suc, ◌==◌, if◌then◌else◌, List, [], ◌∷◌, ◌++◌, codes, Option, Some, None}
use Rattle.std.specs.Str.{bytes_eq}
use Rattle.xf_base.specs.Limits.{expression_limit}
use Rattle.xf_def_syntax.specs.declared.expr.Operator.{Operator}
use Rattle.xf_def_syntax.specs.declared.expr.Operator.TheVariants as o
use Rattle.xf_def_syntax.specs.declared.expr.Expr.{Expr}
use Rattle.xf_def_syntax.specs.declared.expr.Expr.TheVariants as e
use Rattle.xf_def_syntax.specs.declared.expr.Link.{Link, roll-Link}
use Rattle.xf_path.specs.declared.token.Kind.{Kind}
use Rattle.xf_path.specs.declared.token.Kind.TheVariants as k
use Rattle.xf_path.specs.Reading.{Rule, kind_of, place_of, text_of, ◌>>=◌, ◌>>◌, pure, pass_next}

-- [33] OperatorName
abbrev pub operator_called : List ℕ → Option Operator
operator_called text =
    if bytes_eq text (codes "or") then Some o.Or
    else (if bytes_eq text (codes "and") then Some o.And
    else (if bytes_eq text (codes "div") then Some o.Divide
    else (if bytes_eq text (codes "mod") then Some o.Modulo else None)))

-- [32] Operator: behind an operand a name is that of an operator, whatever follows it, and a `*` multiplies
unfoldable pub operator_of : Kind → List ℕ → Option Operator
operator_of k.Bar text = Some o.Union
operator_of k.Plus text = Some o.Add
operator_of k.Minus text = Some o.Subtract
operator_of k.Star text = Some o.Multiply
operator_of k.Equal text = Some o.Equal
operator_of k.NotEqual text = Some o.NotEqual
operator_of k.Less text = Some o.Less
operator_of k.LessOrEqual text = Some o.LessOrEqual
operator_of k.Greater text = Some o.Greater
operator_of k.GreaterOrEqual text = Some o.GreaterOrEqual
operator_of k.Name text = operator_called text
operator_of k.Called text = operator_called text
operator_of k.AxisName text = operator_called text
operator_of _ text = None

-- the ranks, the tightest first: [18] UnionExpr, [26] MultiplicativeExpr, [25] AdditiveExpr, [24] RelationalExpr, [23] EqualityExpr,
-- [22] AndExpr, [21] OrExpr
abbrev pub rank_of : Operator → ℕ
rank_of o.Union = 0
rank_of o.Multiply = 1
rank_of o.Divide = 1
rank_of o.Modulo = 1
rank_of o.Add = 2
rank_of o.Subtract = 2
rank_of o.Less = 3
rank_of o.LessOrEqual = 3
rank_of o.Greater = 3
rank_of o.GreaterOrEqual = 3
rank_of o.Equal = 4
rank_of o.NotEqual = 4
rank_of o.And = 5
rank_of o.Or = 6

abbrev pub of_rank : ℕ → Option Operator → Option Operator
of_rank rank None = None
of_rank rank (Some operator) = if rank_of operator == rank then Some operator else None

abbrev pub operator_at : ℕ → Kind → List ℕ → Option Operator
operator_at rank kind text = of_rank rank (operator_of kind text)

-- one more link where an operator of the rank comes next
abbrev pub link_by : Rule Expr → (List Link → Rule (List Link)) → List Link → ℕ → Option Operator → Rule (List Link)
link_by side more found place None = pure found
link_by side more found place (Some operator) = do
  pass_next
  right ← side
  more (found ++ roll-Link (record { place = place; operator = operator; right = right }) ∷ [])

-- the links that follow those found
unfoldable pub more_links : Rule Expr → ℕ → ℕ → List Link → Rule (List Link)
more_links side rank zero found = pure found
more_links side rank (suc most) found = λ ts. link_by side (more_links side rank most) found (place_of ts) (operator_at rank (kind_of ts) (text_of ts)) ts

-- operators of one rank go from left to right; one operand alone is no chain
abbrev pub chain_of : Expr → List Link → Expr
chain_of first [] = first
chain_of first (l ∷ ls) = e.Chain first (l ∷ ls)

unfoldable pub chain : Rule Expr → ℕ → Rule Expr
chain side rank = do
  first ← side
  found ← more_links side rank expression_limit []
  pure (chain_of first found)
