use Rattle.std.proofs.Common.{◌∙◌, ap, sym, map, filter_map}
use Rattle.xf_name.specs.Faults.{has_double, expanded}
use Rattle.xf_name.proofs.DoubleLemmas.{doubles, doubles-none, doubled, one_more, name_shown}
use Rattle.xf_name.proofs.faults.has_double.Goals as goal

pub loop-attribute-init : goal.loop-attribute-init
loop-attribute-init c =
    let names = filter_map (expanded c.args.prefixes.now) c.args.attributes.now in
    doubles-none names ∙ ap (λ keys. doubles (map name_shown keys) names) (sym c.clear.ensures.empty)

pub returns-then-not-branch : goal.returns-then-not-branch
returns-then-not-branch c =
    let b = c.args.prefixes.now in
    let ps = c.args.attributes.now in
    doubled (has_double (filter_map (expanded b) ps)) b ps c.loop-attribute.attribute-index c.attribute-item.result c.loop-attribute.seen.keys c.in-Some.name c.loop-attribute-test.true c.attribute-item.is c.loop-attribute.invariant
    c.in-Some.ensures c.in_ok-insert.field-0 c.in_ok-insert.ensures.added c.if-not-branch.true

pub loop-attribute-preserved : goal.loop-attribute-preserved
loop-attribute-preserved c =
    let b = c.args.prefixes.now in
    let ps = c.args.attributes.now in
    one_more (has_double (filter_map (expanded b) ps)) b ps c.loop-attribute.attribute-index c.attribute-item.result c.loop-attribute.seen.keys c.insert.new.self.keys c.in-Some.name c.loop-attribute-test.true c.attribute-item.is
    c.loop-attribute.invariant c.in-Some.ensures c.in_ok-insert.field-0 c.in_ok-insert.ensures.added c.if-not-branch.false c.in_ok-insert.ensures.keys
