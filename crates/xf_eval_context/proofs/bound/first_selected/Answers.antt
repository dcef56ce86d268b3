use Rattle.std.proofs.Common.{sym}
use Rattle.xf_eval.proofs.Lives.{live-get, live-is}
use Rattle.xf_eval_context.proofs.bound.first_selected.Goals as goal

pub stands_for-requires : goal.stands_for-requires
stands_for-requires c =
    let nodes = c.args.over.now.forest.now.forest.nodes in
    live-get c.nodes_in-nodes.result 0 c.in-Some.node.number nodes (live-is nodes c.nodes_in-nodes.ensures c.in_ok-value.ensures.live) (sym c.in-Some.ensures)
