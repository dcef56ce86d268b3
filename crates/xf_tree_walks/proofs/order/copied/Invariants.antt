use Rattle.std.proofs.Common.{◌≡◌, map, take}
use Rattle.xf_def_forest.specs.declared.node.NodeId.{NodeId}
use Rattle.xf_tree_walks.proofs.order.copied.Given as goal

abbrev pub invariant-loop-node : goal.invariant-loop-node
invariant-loop-node l = l.list ≡ map (λ (n : NodeId). n.number) (take l.node-index l.nodes)
