use Rattle.std.proofs.Common.{◌≡◌, ◌++◌, length}
use Rattle.xf_def_forest.specs.Visit.{visits, ancestors_of}
use Rattle.xf_binds_rebuild.proofs.Above.{number_in, up_from}
use Rattle.xf_recalc_pertinent.proofs.touched.ancestors.Given as goal

abbrev pub invariant-loop-next : goal.invariant-loop-next
invariant-loop-next l = l.above ++ up_from (visits l.forest.forest.nodes) (number_in l.next) ≡ ancestors_of l.fn.node.number (visits l.forest.forest.nodes)

abbrev pub decreases-loop-next : goal.decreases-loop-next
decreases-loop-next l = length (up_from (visits l.forest.forest.nodes) (number_in l.next))
