use Rattle.std.proofs.Common.{◌≡◌, ◌++◌, length}
use Rattle.xf_name.specs.declared.axis.Axis.TheVariants.{Attribute}
use Rattle.xf_def_forest.specs.Axis.{axis_of}
use Rattle.xf_def_forest.specs.Visit.{visits}
use Rattle.xf_report.proofs.nodes.push_attributes.Given as goal

abbrev pub invariant-loop-attribute : goal.invariant-loop-attribute
invariant-loop-attribute l = l.nodes ++ l.walk ≡ l.fn.nodes ++ axis_of Attribute l.fn.node.number (visits l.forest.forest.nodes)

abbrev pub decreases-loop-attribute : goal.decreases-loop-attribute
decreases-loop-attribute l = length l.walk
