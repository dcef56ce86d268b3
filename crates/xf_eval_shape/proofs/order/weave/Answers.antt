use Rattle.xf_eval.proofs.Lives.{live-item, live-is}
use Rattle.xf_eval_shape.specs.Woven.{is_attribute_of}
use Rattle.xf_eval_shape.proofs.Weaves.{weave-left, weave-spots, weave-waits}
use Rattle.xf_eval_shape.proofs.order.weave.Goals as goal

pub flush-requires : goal.flush-requires
flush-requires c =
    let nodes = c.args.forest.now.forest.nodes in
    live-item c.as_slice-node-items.result.now c.loop-node.node-index _ nodes (live-is nodes c.as_slice-node-items.ensures c.requires.all) c.loop-node-test.true

pub loop-node-preserved : goal.loop-node-preserved
loop-node-preserved c =
    let nodes = c.args.forest.now.forest.nodes in
    let all = c.as_slice-node-items.result.now in record {
      left = weave-left (is_attribute_of nodes) nodes all c.loop-node.node-index _ c.args.nodes.now c.args.owners.now _ _ _ _ _ _ _ _ _ _ c.in_ok-waiting.ensures.items c.in_ok-waiting.ensures.waits c.in_ok-node_at.ensures.items c.in_ok-node_at.ensures.at c.meet.ensures.waits c.meet.ensures.at _ c.loop-node.invariant.left c.loop-node-test.true;
      spots = weave-spots (is_attribute_of nodes) nodes all c.loop-node.node-index _ c.args.nodes.now c.args.owners.now _ _ _ _ _ _ _ _ _ _ c.in_ok-waiting.ensures.items c.in_ok-waiting.ensures.waits c.in_ok-node_at.ensures.items c.in_ok-node_at.ensures.at c.meet.ensures.waits c.meet.ensures.at c.loop-node.invariant.spots c.loop-node.invariant.waits c.requires.nodes;
      waits = weave-waits (is_attribute_of nodes) nodes all c.loop-node.node-index _ c.args.nodes.now c.args.owners.now _ _ _ _ _ _ _ _ _ _ c.in_ok-waiting.ensures.items c.in_ok-waiting.ensures.waits c.in_ok-node_at.ensures.items c.in_ok-node_at.ensures.at c.meet.ensures.waits c.meet.ensures.at c.loop-node.invariant.waits c.requires.owners;
      nodes = c.in_ok-node_at.ensures.within;
      owners = c.meet.ensures.within;
    }
