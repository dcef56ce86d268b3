use Rattle.std.proofs.Common.{◌≡◌, ◌++◌, map}
use Rattle.xf_graph.proofs.vertices.VertexSet.copy_to.Given as goal

abbrev pub invariant-loop-vertex : goal.invariant-loop-vertex
invariant-loop-vertex l = l.buffer.items ≡ l.initial.buffer.items ++ map (λ v. v.now) l.yielded
