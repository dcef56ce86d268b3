-- The expressions that read nothing, by their syntax: those that name nodes by where they stand alone, as the node sets of binds do.
use Rattle.std.specs.Prelude.{Bool, true, false, not, ◌&&◌, List}
use Rattle.std.specs.List.{list_all}
use Rattle.xf_def_syntax.specs.declared.expr.Expr.{Expr}
use Rattle.xf_def_syntax.specs.declared.expr.Expr.TheOpen.{Expr-F, Link-F, Step-F}
use Rattle.xf_def_syntax.specs.declared.expr.Expr.TheFolds.{fold-Expr}
use Rattle.xf_def_syntax.specs.declared.expr.Operator.{Operator}
use Rattle.xf_def_xpath.specs.AskedSteps.{tells_kinds, is_pair}
use Rattle.xf_def_xpath.specs.Table.{Function, function_at}
use Rattle.xf_def_xpath.specs.Table as of
use Rattle.xf_def_xpath.specs.Exact.{is_union}

pub record Quiet : Type 0 where
  -- nothing is read
  pub is_quiet : Bool
  -- no nodes are given
  pub is_empty : Bool

pub record LinkQuiet : Type 0 where
  pub operator : Operator
  pub right : Quiet

abbrev pub quiet : Bool → Bool → Quiet
quiet is_quiet is_empty = record { is_quiet = is_quiet; is_empty = is_empty }

abbrev pub all_silent : List Quiet → Bool
all_silent xs = list_all (λ x. x.is_quiet && x.is_empty) xs

-- an id is written, or computed from what reads nothing
abbrev pub call_quiet : Function → List Quiet → Quiet
call_quiet (of.truth b) xs = quiet true true
call_quiet of.current xs = quiet true false
call_quiet of.instance xs = quiet (all_silent xs) false
call_quiet of.last xs = quiet true true
call_quiet of.position xs = quiet true true
call_quiet function xs = quiet false false

abbrev pub links_quiet : List LinkQuiet → Bool
links_quiet links = list_all (λ l. is_union l.operator && l.right.is_quiet) links

abbrev pub steps_quiet : List Bool → Bool
steps_quiet steps = list_all (λ b. b) steps

abbrev pub expr_quiet : Expr-F Quiet LinkQuiet Bool → Quiet
expr_quiet (Expr-F.Number place k) = quiet true true
expr_quiet (Expr-F.Literal place text) = quiet true true
expr_quiet (Expr-F.Call place code xs) = call_quiet (function_at code) xs
expr_quiet (Expr-F.Negated place signs x) = quiet (x.is_quiet && x.is_empty) true
expr_quiet (Expr-F.Chain first links) = quiet (first.is_quiet && links_quiet links) false
expr_quiet (Expr-F.Filter first xs) = quiet first.is_quiet false
expr_quiet (Expr-F.Path place start steps) = quiet (steps_quiet steps) false
expr_quiet (Expr-F.From first steps) = quiet (first.is_quiet && steps_quiet steps) false

abbrev pub link_quiet : Link-F Quiet LinkQuiet Bool → LinkQuiet
link_quiet link = record { operator = link.operator; right = link.right }

-- whatever the predicates are
abbrev pub step_quiet : Step-F Quiet LinkQuiet Bool → Bool
step_quiet step = not (tells_kinds step.is_written step.axis step.test) && not (is_pair step.is_below step.axis)

abbrev pub quiet_of : Expr → Quiet
quiet_of = fold-Expr Quiet LinkQuiet Bool expr_quiet link_quiet step_quiet
