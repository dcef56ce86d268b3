use Rattle.std.proofs.Common.{◌≡◌, ◌+◌, map, sym, subst, arith}
use Rattle.xf_def_forest.specs.declared.node.NodeId.{NodeId}
use Rattle.xf_def_forest.specs.Order.{in_order}
use Rattle.xf_def_forest.specs.Visit.{visits}
use Rattle.xf_tree_walks.specs.Nodes.{node_of}
use Rattle.xf_tree_walks.proofs.OrderLemmas.{StandUp, numbers-more, take-past, up-none, up-more, up-means}
use Rattle.xf_tree_walks.proofs.order.goes_up.Goals as goal

pub loop-node-init : goal.loop-node-init
loop-node-init c = up-none c.args.slots.now c.args.rows.now.items

pub loop-node-preserved : goal.loop-node-preserved
loop-node-preserved c =
    let s = c.args.slots.now in
    let rows = c.args.rows.now.items in
    subst (λ ns. StandUp s rows ns (c.in-Some.at + 1)) (sym (numbers-more c.loop-node.node-index c.args.nodes.now _ c.loop-node-test.true))
    (up-more s rows _ c.loop-node.next _ c.in-Some.at (c.requires _) c.loop-node.invariant c.in-Some.ensures (omega (arith, c.if-at-next.false)))

pub returns : goal.returns
returns c t =
    let s = c.args.slots.now in
    let rows = c.args.rows.now.items in
    subst (λ l. in_order (visits (map (node_of s) rows)) (map (λ (n : NodeId). n.number) l) ≡ map (λ (n : NodeId). n.number) l) (take-past c.loop-node.node-index c.args.nodes.now (omega (arith, c.loop-node-test.false)))
    (up-means s rows _ c.loop-node.next c.loop-node.invariant)
