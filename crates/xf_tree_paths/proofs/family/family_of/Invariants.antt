use Rattle.std.proofs.Common.{◌≡◌, ◌++◌, length}
use Rattle.xf_name.specs.declared.axis.Axis.TheVariants.{Child}
use Rattle.xf_def_forest.specs.Axis.{axis_of}
use Rattle.xf_def_forest.specs.Visit.{visits}
use Rattle.xf_tree_paths.proofs.family.family_of.Given as goal

abbrev pub invariant-loop-child : goal.invariant-loop-child
invariant-loop-child l = l.children ++ l.walk ≡ axis_of Child l.fn.node.number (visits l.forest.forest.nodes)

abbrev pub decreases-loop-child : goal.decreases-loop-child
decreases-loop-child l = length l.walk
