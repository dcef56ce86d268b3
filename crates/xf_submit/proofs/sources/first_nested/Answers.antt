use Rattle.std.proofs.Common.{ap, ◌∙◌}
use Rattle.xf_eval_context.specs.Around.{is_event_live, numbers_of}
use Rattle.xf_eval_context.specs.Indexes.{indexes_in}
use Rattle.xf_eval_context.proofs.AroundLaws.{around-stands, documents-found}
use Rattle.xf_submit.proofs.sources.first_nested.Goals as goal

pub nested-requires : goal.nested-requires
nested-requires c =
    let o = c.args.over.now in
    let form = o.form.now in
    let nodes = o.forest.now.forest.nodes in
    let ds = numbers_of c.as_slice.result.now in
    around-stands (indexes_in form c.without_rows.result) form.tables.instances o.prefixes.now form.decimals nodes ds c.outside.result
    (documents-found form.tables.instances c.as_slice-instances.result.now nodes ds c.as_slice-instances.ensures (ap numbers_of c.as_slice.ensures.value ∙ c.in_ok-documents.ensures.all))
    (ap (is_event_live nodes) c.outside.ensures)
