use Rattle.std.proofs.Common.{ℕ, ◌<◌}
use Rattle.xf_graph.specs.Search.{IsOnNoCycle}
use Rattle.xf_graph.proofs.cycle.chosen_cycle.Given as goal

abbrev pub invariant-loop-target : goal.invariant-loop-target
invariant-loop-target l = (v : ℕ) → v < l.target → IsOnNoCycle l.graph v
