use Rattle.std.proofs.Common.{map, sym, ap, ◌∙◌}
use Rattle.xf_name.specs.Faults.{has_double}
use Rattle.xf_name.proofs.DoubleLemmas.{doubles, doubles-none, name_shown}
use Rattle.xf_tree_literals.proofs.BareLemmas.{bare-doubled, bare-more}
use Rattle.xf_tree_literals.proofs.bare_fault.repeats.Goals as goal

pub loop-attribute-init : goal.loop-attribute-init
loop-attribute-init c =
    let names = map (λ a. (a.name.space, a.name.local)) c.args.attributes.now in
    doubles-none names ∙ ap (λ keys. doubles (map name_shown keys) names) (sym c.requires)

pub returns-then-not-branch : goal.returns-then-not-branch
returns-then-not-branch c =
    let a = c.attribute-item.result in
    let attributes = c.args.attributes.now in
    bare-doubled (has_double (map (λ a. (a.name.space, a.name.local)) attributes)) attributes c.loop-attribute.attribute-index a c.loop-attribute.seen.keys (a.name.space, c.as_str.result) c.loop-attribute-test.true c.attribute-item.is c.loop-attribute.invariant
    (ap (λ n. (a.name.space, n)) c.as_str.ensures) c.in_ok-insert.field-0 c.in_ok-insert.ensures.added c.if-not-branch.true

pub loop-attribute-preserved : goal.loop-attribute-preserved
loop-attribute-preserved c =
    let a = c.attribute-item.result in
    let attributes = c.args.attributes.now in
    bare-more (has_double (map (λ a. (a.name.space, a.name.local)) attributes)) attributes c.loop-attribute.attribute-index a c.loop-attribute.seen.keys c.insert.new.self.keys (a.name.space, c.as_str.result) c.loop-attribute-test.true c.attribute-item.is
    c.loop-attribute.invariant (ap (λ n. (a.name.space, n)) c.as_str.ensures) c.in_ok-insert.field-0 c.in_ok-insert.ensures.added c.if-not-branch.false c.in_ok-insert.ensures.keys
