use Rattle.std.proofs.Common.{take}
use Rattle.xf_graph.specs.Search.{PutsSome}
use Rattle.xf_graph.proofs.peel.count_down.Given as goal

abbrev pub invariant-loop-vertex : goal.invariant-loop-vertex
invariant-loop-vertex l = PutsSome (take l.vertex-index l.vertices) l.initial.queue.items l.queue.items
