use Rattle.xf_eval.proofs.Lives.{live-item, live-is}
use Rattle.xf_eval.proofs.compare.some_beside.Goals as goal

pub value_of_node-requires : goal.value_of_node-requires
value_of_node-requires c =
    let nodes = c.args.forest.now.forest.nodes in
    live-item c.as_slice-node-items.result.now c.loop-node.node-index _ nodes (live-is nodes c.as_slice-node-items.ensures c.requires) c.loop-node-test.true
