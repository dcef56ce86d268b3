use Rattle.std.proofs.Common.{◌≡◌, ℕ, ◌≤◌, true, ◌++◌, List}
use Rattle.xf_graph.specs.Edges.{has_edge}
use Rattle.xf_graph.specs.Marks.{mark_of}
use Rattle.xf_graph.specs.Search.{IsTraced, IsTrace}
use Rattle.xf_graph.proofs.cycle.trace.Given as goal

abbrev pub invariant-loop-mark : goal.invariant-loop-mark
invariant-loop-mark l = record {
  so_far : (rest : List ℕ) → IsTraced l.graph (mark_of l.marks) l.target l.reader l.mark rest → IsTrace l.graph (mark_of l.marks) l.target l.limit (l.cycle.items ++ rest);
  source : (w : ℕ) × (has_edge l.graph w l.reader ≡ true) × (mark_of l.marks w ≡ l.mark);
  positive : 1 ≤ l.mark;
}

abbrev pub decreases-loop-mark : goal.decreases-loop-mark
decreases-loop-mark l = l.mark
