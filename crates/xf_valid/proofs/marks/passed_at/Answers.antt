use Rattle.std.proofs.Common.{◌-◌, ◌<◌, length, sym, subst, arith}
use Rattle.xf_valid.specs.Chain.{AreTold}
use Rattle.xf_valid.proofs.Told.{told-first, told-item}
use Rattle.xf_valid.proofs.marks.passed_at.Goals as goal

pub returns-then-passed-node-clause-told : goal.returns-then-passed-node-clause-told
returns-then-passed-node-clause-told c =
    subst (AreTold c.args.table.now c.args.forest.now.forest.nodes) (sym c.truncate.ensures.items) (told-first c.args.table.now c.args.forest.now.forest.nodes c.loop-at.chain.items _ c.loop-at.invariant.told)

pub returns-then-passed-node-clause-relevant : goal.returns-then-passed-node-clause-relevant
returns-then-passed-node-clause-relevant c =
    let within : c.loop-at.at - 1 < length c.loop-at.chain.items = omega (arith, c.loop-at.chain.ok, c.loop-at.invariant.within, c.loop-at-test.true) in
    (told-item c.args.table.now c.args.forest.now.forest.nodes c.loop-at.chain.items (c.loop-at.at - 1) c.index-passed.result.now c.args.node.number within c.index-passed.ensures c.if-passed-node.true c.loop-at.invariant.told).0

pub returns-then-passed-node-clause-readonly : goal.returns-then-passed-node-clause-readonly
returns-then-passed-node-clause-readonly c =
    let within : c.loop-at.at - 1 < length c.loop-at.chain.items = omega (arith, c.loop-at.chain.ok, c.loop-at.invariant.within, c.loop-at-test.true) in
    (told-item c.args.table.now c.args.forest.now.forest.nodes c.loop-at.chain.items (c.loop-at.at - 1) c.index-passed.result.now c.args.node.number within c.index-passed.ensures c.if-passed-node.true c.loop-at.invariant.told).1
