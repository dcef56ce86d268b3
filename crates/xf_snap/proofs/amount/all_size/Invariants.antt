use Rattle.std.proofs.Common.{◌≡◌, ◌-◌, ◌^◌, min, take}
use Rattle.std.specs.Prelude.{sum_by}
use Rattle.xf_snap.specs.Within.{tree_size}
use Rattle.xf_snap.proofs.amount.all_size.Given as goal

abbrev pub invariant-loop-tree : goal.invariant-loop-tree
invariant-loop-tree l = l.size ≡ min (sum_by tree_size (take l.tree-index l.trees)) (2 ^ 64 - 1)
