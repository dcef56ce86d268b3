use Rattle.std.proofs.Common.{◌≡◌, map, drop}
use Rattle.xf_def_model.specs.Rules.{calls_place, some}
use Rattle.xf_recalc_pertinent.specs.Called.{link_calls_place, step_calls_place}
use Rattle.xf_recalc_pertinent.proofs.placed.+placed.Given as goal

abbrev pub invariant-any_calls_place-loop-expr : goal.invariant-any_calls_place-loop-expr
invariant-any_calls_place-loop-expr l = some (map calls_place (drop l.expr-index l.exprs)) ≡ some (map calls_place l.exprs)

abbrev pub invariant-any_link_calls_place-loop-link : goal.invariant-any_link_calls_place-loop-link
invariant-any_link_calls_place-loop-link l = some (map link_calls_place (drop l.link-index l.links)) ≡ some (map link_calls_place l.links)

abbrev pub invariant-any_step_calls_place-loop-step : goal.invariant-any_step_calls_place-loop-step
invariant-any_step_calls_place-loop-step l = some (map step_calls_place (drop l.step-index l.steps)) ≡ some (map step_calls_place l.steps)
