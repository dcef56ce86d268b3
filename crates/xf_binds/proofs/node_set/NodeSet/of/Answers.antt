use Rattle.std.proofs.Common.{ap, ◌∙◌, take_all}
use Rattle.xf_def_forest.specs.Visit.{has}
use Rattle.xf_binds.proofs.NodeSets.{gathered, numbers_of}
use Rattle.xf_binds.proofs.node_set.NodeSet.of.Goals as goal

pub loop-node-preserved : goal.loop-node-preserved
loop-node-preserved c =
    gathered c.as_slice-node-items.result.now c.loop-node.node-index _ c.loop-node.numbers c.insert.new.self c.loop-node-test.true c.loop-node.invariant (λ n. c.in_ok-insert.ensures.updates.0 n)

pub invariant_of-result : goal.invariant_of-result
invariant_of-result c = λ n.
    c.loop-node.invariant n ∙ ap (λ l. has n (numbers_of l)) (take_all c.loop-node.node-index c.as_slice-node-items.result.now c.loop-node-test.false) ∙ ap (has n) c.as_slice-node-items.ensures
