use Rattle.std.proofs.Common.{length, slice_index_or, []}
use Rattle.xf_graph.proofs.CutState.{CutSoFar}
use Rattle.xf_graph.proofs.links.cut.Given as goal

abbrev pub invariant-loop-end : goal.invariant-loop-end
invariant-loop-end l = CutSoFar l.vertex l.initial.sets l.initial.others l.sets l.others

abbrev pub decreases-loop-end : goal.decreases-loop-end
decreases-loop-end l = length (slice_index_or l.sets l.vertex [])
