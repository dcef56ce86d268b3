use Rattle.std.proofs.Common.{◌≡◌, map, drop}
use Rattle.std.specs.List.{list_any}
use Rattle.xf_form_refusals.specs.Limits.{is_too_deep}
use Rattle.xf_form_refusals.specs.Rows.{shown}
use Rattle.xf_form_refusals.proofs.limits.is_too_deep.Given as goal

abbrev pub invariant-loop-row : goal.invariant-loop-row
invariant-loop-row l = list_any is_too_deep (map shown l.rows) ≡ list_any is_too_deep (map shown (drop l.row-index l.rows))
