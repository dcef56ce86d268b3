use Rattle.std.proofs.Common.{ap, ◌∙◌}
use Rattle.xf_def_xpath.specs.Given.{first_document}
use Rattle.xf_eval_context.specs.Around.{documents_by, numbers_of}
use Rattle.xf_eval_context.proofs.AroundLaws.{documents-found}
use Rattle.xf_submit.proofs.sources.first_document.Goals as goal

pub returns : goal.returns
returns c =
    let o = c.args.over.now in
    let form = o.form.now in
    let nodes = o.forest.now.forest.nodes in
    let ds = numbers_of c.as_slice.result.now in
    c.document_of.ensures
    ∙ ap (λ l. first_document c.args.model (documents_by l ds)) c.as_slice-instances.ensures
    ∙ ap (λ l. first_document c.args.model (documents_by form.tables.instances l))
    (documents-found form.tables.instances c.as_slice-instances.result.now nodes ds c.as_slice-instances.ensures (ap numbers_of c.as_slice.ensures.value ∙ c.in_ok-documents.ensures.all))
