use Rattle.std.proofs.Common.{◌≡◌, ◌-◌, ◌^◌, min, take}
use Rattle.std.specs.Prelude.{sum_by}
use Rattle.xf_snap.specs.Within.{tree_nodes}
use Rattle.xf_snap.proofs.amount.all_nodes.Given as goal

abbrev pub invariant-loop-tree : goal.invariant-loop-tree
invariant-loop-tree l = l.nodes ≡ min (sum_by tree_nodes (take l.tree-index l.trees)) (2 ^ 64 - 1)
