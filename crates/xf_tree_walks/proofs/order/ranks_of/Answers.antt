use Rattle.std.proofs.Common.{sym, ap, ◌∙◌}
use Rattle.xf_tree_walks.specs.Reads.{is_among, stands_one}
use Rattle.xf_tree_walks.proofs.OrderLemmas.{numbers-more, rank-more, rank-less}
use Rattle.xf_tree_walks.proofs.order.ranks_of.Goals as goal

pub loop-node-preserved-in-Some : goal.loop-node-preserved-in-Some
loop-node-preserved-in-Some c at =
    let s = c.args.slots.now in
    let rows = c.args.rows.now.items in
    ap (is_among at) c.in_ok-push-in-Some.ensures.items
    ∙ rank-more s rows _ _ _ c.in-Some.at at (c.requires _) c.in-Some.ensures (c.loop-node.invariant at)
    ∙ ap (λ ns. stands_one s rows ns at) (sym (numbers-more c.loop-node.node-index c.args.nodes.now _ c.loop-node-test.true))

pub loop-node-preserved : goal.loop-node-preserved
loop-node-preserved c at =
    let s = c.args.slots.now in
    let rows = c.args.rows.now.items in
    rank-less s rows _ _ _ at c.in-None.ensures (c.loop-node.invariant at)
    ∙ ap (λ ns. stands_one s rows ns at) (sym (numbers-more c.loop-node.node-index c.args.nodes.now _ c.loop-node-test.true))
