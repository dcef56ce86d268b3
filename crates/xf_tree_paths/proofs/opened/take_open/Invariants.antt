use Rattle.std.proofs.Common.{length}
use Rattle.xf_tree_paths.specs.Opened.{AllOpen}
use Rattle.xf_tree_paths.proofs.opened.take_open.Given as goal

abbrev pub invariant-loop-one : goal.invariant-loop-one
invariant-loop-one l = AllOpen l.forest.forest.nodes l.nodes.items

abbrev pub decreases-loop-one : goal.decreases-loop-one
decreases-loop-one l = length l.nodes.items
