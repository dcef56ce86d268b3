use Rattle.std.proofs.Common.{◌≡◌, map, drop}
use Rattle.xf_form_refusals.specs.Rows.{shown}
use Rattle.xf_form_refusals.specs.Schemas.{restriction_in}
use Rattle.xf_form_refusals.proofs.schemas.restriction_in.Given as goal

abbrev pub invariant-loop-part : goal.invariant-loop-part
invariant-loop-part l =
    let all = map shown l.rows in
    restriction_in all l.parts ≡ restriction_in all (drop l.part-index l.parts)
