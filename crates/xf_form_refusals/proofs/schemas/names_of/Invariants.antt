use Rattle.std.proofs.Common.{◌≡◌, ◌++◌, map, drop, filter_map}
use Rattle.xf_form_refusals.specs.Rows.{shown}
use Rattle.xf_form_refusals.specs.Schemas.{name_of}
use Rattle.xf_form_refusals.proofs.schemas.names_of.Given as goal

abbrev pub invariant-loop-row : goal.invariant-loop-row
invariant-loop-row l =
    let all = map shown l.rows in
    l.names ++ filter_map (name_of all) (map shown (drop l.row-index l.rows)) ≡ filter_map (name_of all) all
