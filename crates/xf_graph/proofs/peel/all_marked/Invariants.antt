use Rattle.std.proofs.Common.{◌≡◌, ℕ, true, take}
use Rattle.xf_graph.specs.Edges.{has}
use Rattle.xf_graph.specs.Marks.{mark_of}
use Rattle.xf_graph.proofs.peel.all_marked.Given as goal

abbrev pub invariant-loop-vertex : goal.invariant-loop-vertex
invariant-loop-vertex l = (v : ℕ) → has (take l.vertex-index l.vertices) v ≡ true → mark_of l.marks v ≡ 0 → ⊥
