use Rattle.std.proofs.Common.{◌≡◌, ℕ, nat_lt}
use Rattle.xf_graph.specs.Edges.{has}
use Rattle.xf_graph.proofs.links.all_below.Given as goal

abbrev pub invariant-loop-vertex : goal.invariant-loop-vertex
invariant-loop-vertex l = (v : ℕ) → has l.all.items v ≡ nat_lt v l.vertex
