use Rattle.std.proofs.lemmas.Result.{IfOk-weaker}
use Rattle.xf_eval.proofs.Lives.{live-in_order, live-is, live-item}
use Rattle.xf_eval_context.proofs.nested.bound.bound_nodes.Goals as goal

pub push_stand_ins-requires : goal.push_stand_ins-requires
push_stand_ins-requires c =
    let nodes = c.args.forest.now.forest.nodes in
    live-item c.as_slice-node-items.result.now c.loop-node.node-index _ nodes (live-is nodes c.as_slice-node-items.ensures c.requires) c.loop-node-test.true

pub returns-clause-live : goal.returns-clause-live
returns-clause-live c =
    let nodes = c.args.forest.now.forest.nodes in
    IfOk-weaker c.in_order.result _ _ (λ found h. live-is nodes h (live-in_order c.loop-node.found nodes)) c.in_order.ensures
