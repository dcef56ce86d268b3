use Rattle.std.proofs.Common.{◌≡◌, map, drop}
use Rattle.xf_form_refusals.specs.Refusals.{model_from}
use Rattle.xf_form_refusals.specs.Rows.{shown}
use Rattle.xf_form_explain.proofs.found.first_model.Given as goal

abbrev pub invariant-loop-place : goal.invariant-loop-place
invariant-loop-place l = model_from 0 (map shown l.rows) ≡ model_from l.place (map shown (drop l.place l.rows))
