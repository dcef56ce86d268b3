use Rattle.std.proofs.Common.{take}
use Rattle.xf_graph.specs.Marks.{mark_of}
use Rattle.xf_graph.specs.Search.{MarksNew}
use Rattle.xf_graph.proofs.cycle.mark_new.Given as goal

abbrev pub invariant-loop-vertex : goal.invariant-loop-vertex
invariant-loop-vertex l =
    MarksNew (take l.vertex-index l.vertices) l.mark (mark_of l.initial.marks) (mark_of l.marks) l.initial.queue.items l.queue.items
