use Rattle.std.proofs.Common.{map}
use Rattle.xf_form_refusals.specs.Rows.{shown}
use Rattle.xf_form_refusals.proofs.RefusalLemmas.{shared_by}
use Rattle.xf_form_refusals.proofs.refusals.shares_id.Goals as goal

pub returns-in-Some : goal.returns-in-Some
returns-in-Some c =
    let all = map shown c.args.rows.now in
    shared_by all c.as_slice.result.now c.args.row.now.element.now.attributes c.in-Some.id.now c.called.result c.in-Some.ensures c.as_slice.ensures (c.called.ensures all c.requires)
