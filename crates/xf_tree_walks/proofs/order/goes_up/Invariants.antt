use Rattle.std.proofs.Common.{map, take}
use Rattle.xf_def_forest.specs.declared.node.NodeId.{NodeId}
use Rattle.xf_tree_walks.proofs.OrderLemmas.{StandUp}
use Rattle.xf_tree_walks.proofs.order.goes_up.Given as goal

abbrev pub invariant-loop-node : goal.invariant-loop-node
invariant-loop-node l = StandUp l.slots l.rows.items (map (λ (n : NodeId). n.number) (take l.node-index l.nodes)) l.next
