use Rattle.std.proofs.Common.{◌≡◌, length, sym, ap, ◌∙◌, arith}
use Rattle.std.proofs.lemmas.Bool.Decides.{nat_tests}
use Rattle.std.proofs.lemmas.List.{nil_from_length}
use Rattle.xf_def_xpath.specs.Given.{document_of}
use Rattle.xf_engine_state.specs.Around.{documents_by, numbers_of}
use Rattle.xf_engine_state.proofs.AroundLaws.{no-documents}
use Rattle.xf_engine_state.proofs.around.+document_of.Goals as goal

pub returns-then-is_empty-2 : goal.returns-then-is_empty-2
returns-then-is_empty-2 t c =
    let test = c.if-is_empty-2.ensures in
    let zero : length c.args.documents.now ≡ 0 = grind (arith, nat_tests, test) in
    sym (ap (λ ds. document_of c.args.model c.args.id.now (documents_by c.args.instances.now (numbers_of ds))) (nil_from_length c.args.documents.now zero)
    ∙ no-documents c.args.model c.args.id.now c.args.instances.now)
