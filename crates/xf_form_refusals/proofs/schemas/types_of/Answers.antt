use Rattle.std.proofs.Common.{◌∙◌, map}
use Rattle.xf_form_refusals.specs.Rows.{shown}
use Rattle.xf_form_refusals.proofs.SchemaLemmas.{types_more}
use Rattle.xf_form_refusals.proofs.schemas.types_of.Goals as goal

pub loop-place-preserved : goal.loop-place-preserved
loop-place-preserved c =
    types_more c.args.prefixes.now (map shown c.args.rows.now) c.args.rows.now c.loop-place.place c.in_ok-small.field-0 c.index-rows-place.result c.loop-place.types c.push_type.new.types c.loop-place-test.true
    c.index-rows-place.is c.in_ok-small.ensures c.in_ok-push_type.ensures
    ∙ c.loop-place.invariant
