use Rattle.std.proofs.Common.{take}
use Rattle.xf_graph.specs.Marks.{mark_of}
use Rattle.xf_graph.specs.Search.{IsLeastWith}
use Rattle.xf_graph.proofs.cycle.least_with.Given as goal

abbrev pub invariant-loop-vertex : goal.invariant-loop-vertex
invariant-loop-vertex l = IsLeastWith (take l.vertex-index l.vertices) (mark_of l.marks) l.mark l.least
