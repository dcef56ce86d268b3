use Rattle.std.proofs.Common.{◌≡◌, ◌++◌, length}
use Rattle.xf_def_forest.specs.Axis.{axis_of}
use Rattle.xf_def_forest.specs.Visit.{visits}
use Rattle.xf_insert.proofs.walking.push_axis.Given as goal

abbrev pub invariant-loop-other : goal.invariant-loop-other
invariant-loop-other l = l.nodes ++ l.walk ≡ l.fn.nodes ++ axis_of l.fn.axis l.fn.node.number (visits l.forest.forest.nodes)

abbrev pub decreases-loop-other : goal.decreases-loop-other
decreases-loop-other l = length l.walk
