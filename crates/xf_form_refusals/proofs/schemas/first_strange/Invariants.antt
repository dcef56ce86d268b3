use Rattle.std.proofs.Common.{◌≡◌, map, drop}
use Rattle.xf_form_refusals.specs.Rows.{shown}
use Rattle.xf_form_refusals.specs.Schemas.{strange_from}
use Rattle.xf_form_refusals.proofs.schemas.first_strange.Given as goal

abbrev pub invariant-loop-place : goal.invariant-loop-place
invariant-loop-place l =
    let all = map shown l.rows in
    strange_from all 0 all ≡ strange_from all l.place (map shown (drop l.place l.rows))
