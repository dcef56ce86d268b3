use Rattle.std.proofs.Common.{◌≡◌, map, take}
use Rattle.xf_tree_changes.specs.Trees.{part_of}
use Rattle.xf_tree_changes.proofs.tree.contents_of.Given as goal

abbrev pub invariant-loop-at : goal.invariant-loop-at
invariant-loop-at l = l.tree.items ≡ map (part_of l.slots l.top) (take l.at l.rows)
