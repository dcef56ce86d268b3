use Rattle.std.proofs.Common.{◌≡◌, ◌++◌, length, true}
use Rattle.std.specs.List.{flat_map, list_all}
use Rattle.xf_name.specs.declared.axis.Axis.TheVariants.{DescendantOrSelf}
use Rattle.xf_def_forest.specs.Axis.{axis_of}
use Rattle.xf_def_forest.specs.Forest.{has_number}
use Rattle.xf_def_forest.specs.Visit.{visits}
use Rattle.xf_submit.specs.Selecting.{with_attributes}
use Rattle.xf_submit.proofs.nodes.listed_below.Given as goal

abbrev pub invariant-loop-other : goal.invariant-loop-other
invariant-loop-other l = record {
  so_far : l.nodes ++ flat_map (with_attributes l.forest.forest.nodes) l.walk ≡ flat_map (with_attributes l.forest.forest.nodes) (axis_of DescendantOrSelf l.fn.node.number (visits l.forest.forest.nodes));
  live : list_all (λ n. has_number n l.forest.forest.nodes) l.walk ≡ true;
}

abbrev pub decreases-loop-other : goal.decreases-loop-other
decreases-loop-other l = length l.walk
