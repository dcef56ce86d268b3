use Rattle.std.proofs.Common.{◌≡◌, ℕ, map, take}
use Rattle.xf_def_forest.specs.declared.node.NodeId.{NodeId}
use Rattle.xf_tree_walks.specs.Reads.{is_among, stands_one}
use Rattle.xf_tree_walks.proofs.order.ranks_of.Given as goal

abbrev pub invariant-loop-node : goal.invariant-loop-node
invariant-loop-node l = (at : ℕ) → is_among at l.ranks.items ≡ stands_one l.slots l.rows.items (map (λ (n : NodeId). n.number) (take l.node-index l.nodes)) at
