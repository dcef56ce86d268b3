use Rattle.xf_name.specs.Part.{kind_of}
use Rattle.xf_name.specs.Declarations.{with_kind, with_attributes}
use Rattle.xf_name.proofs.DeclarationLemmas.{attributes_too_many, failed_later}
use Rattle.xf_name.proofs.prefixes.Prefixes.declare_all.Goals as goal

pub returns-in-Err : goal.returns-in-Err
returns-in-Err c =
    let start = c.args.self.now in
    let ps = c.args.attributes.now in
    let p = c.attribute-item.result in
    failed_later c.in-Err.fault c.declare.new.self (with_kind c.loop-attribute.self (kind_of p.name) p.text) (with_attributes start ps)
    (attributes_too_many start c.loop-attribute.self ps c.loop-attribute.attribute-index p c.loop-attribute-test.true c.attribute-item.is c.loop-attribute.invariant) c.in-Err.ensures
