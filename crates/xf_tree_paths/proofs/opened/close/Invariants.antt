use Rattle.std.proofs.Common.{List, length}
use Rattle.xf_def_forest.specs.declared.content.Node.{Node}
use Rattle.xf_tree_paths.specs.Opened.{AllOpen}
use Rattle.xf_tree_paths.proofs.opened.close.Given as goal

abbrev pub invariant-loop-one : goal.invariant-loop-one
invariant-loop-one l = (all : List Node) → AllOpen all l.fn.nodes.items → AllOpen all l.nodes.items

abbrev pub decreases-loop-one : goal.decreases-loop-one
decreases-loop-one l = length l.nodes.items
