-- Location paths, step by step (XPath 1.0, sections 2 and 2.5): a rule `nested` reads an expression in brackets from its opening
-- bracket on; b are the bindings of the form.
use Rattle.std.specs.Prelude.{ℕ, zero, suc, Bool, true, false, List, [], ◌∷◌, ◌++◌, Option, Some, None}
use Rattle.xf_base.specs.Limits.{expression_limit}
use Rattle.xf_name.specs.Bindings.{Bindings}
use Rattle.xf_def_syntax.specs.declared.expr.Start.TheVariants as start
use Rattle.xf_def_syntax.specs.declared.expr.Expr.{Expr}
use Rattle.xf_def_syntax.specs.declared.expr.Expr.TheVariants as e
use Rattle.xf_def_syntax.specs.declared.expr.Step.{Step}
use Rattle.xf_path.specs.declared.token.Kind.{Kind}
use Rattle.xf_path.specs.declared.token.Kind.TheVariants as k
use Rattle.xf_path.specs.Reading.{Rule, ◌>>=◌, ◌>>◌, pure, next_kind, next_place, pass_next}
use Rattle.xf_path.specs.Steps.{step}

-- whether a token stands between steps, and if so, whether it is `//`
abbrev pub separator : Kind → Option Bool
separator k.Slash = Some false
separator k.SlashSlash = Some true
separator _ = None

-- the next step where one comes
abbrev pub more_by : (Bool → Rule (List Step)) → List Step → Option Bool → Rule (List Step)
more_by more found None = pure found
more_by more found (Some is_below) = pass_next >> more is_below

-- the steps that follow those found
unfoldable pub more_steps : Bindings → Rule Expr → ℕ → List Step → Rule (List Step)
more_steps b nested zero found = pure found
more_steps b nested (suc most) found = next_kind >>= (λ kind. more_by (λ is_below. step b nested is_below >>= (λ next. more_steps b nested most (found ++ next ∷ []))) found (separator kind))

-- [3] RelativeLocationPath, [11] with `//` between steps
unfoldable pub steps : Bindings → Rule Expr → Bool → Rule (List Step)
steps b nested is_below = step b nested is_below >>= (λ first. more_steps b nested expression_limit (first ∷ []))

-- a token that begins a step behind a `/`; neither a `*` nor a name is an operator there
abbrev pub begins_step : Kind → Bool
begins_step k.Name = true
begins_step k.Called = true
begins_step k.AxisName = true
begins_step k.SpaceStar = true
begins_step k.Star = true
begins_step k.At = true
begins_step k.Dot = true
begins_step k.DotDot = true
begins_step _ = false

-- [2] AbsoluteLocationPath: `/` alone, or steps behind it
abbrev pub rooted : Bindings → Rule Expr → ℕ → Bool → Rule Expr
rooted b nested place true = steps b nested false >>= (λ found. pure (e.Path place start.Root found))
rooted b nested place false = pure (e.Path place start.Root [])

-- [1] LocationPath, [10] with `//` in front
abbrev pub path_by : Bindings → Rule Expr → ℕ → Kind → Rule Expr
path_by b nested place k.Slash = pass_next >> next_kind >>= (λ kind. rooted b nested place (begins_step kind))
path_by b nested place k.SlashSlash = pass_next >> steps b nested true >>= (λ found. pure (e.Path place start.Root found))
path_by b nested place _ = steps b nested false >>= (λ found. pure (e.Path place start.Context found))

unfoldable pub path : Bindings → Rule Expr → Rule Expr
path b nested = do
  place ← next_place
  kind ← next_kind
  path_by b nested place kind
