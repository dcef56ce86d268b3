use Rattle.std.proofs.Common.{◌≡◌, ◌++◌, map, drop}
use Rattle.xf_form_refusals.specs.Rows.{shown}
use Rattle.xf_form_refusals.specs.Schemas.{types_from}
use Rattle.xf_form_refusals.proofs.schemas.types_of.Given as goal

abbrev pub invariant-loop-place : goal.invariant-loop-place
invariant-loop-place l =
    let all = map shown l.rows in
    l.types ++ types_from l.prefixes all l.place (map shown (drop l.place l.rows)) ≡ types_from l.prefixes all 0 all
