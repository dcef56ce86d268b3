use Rattle.std.proofs.Common.{◌≡◌, drop}
use Rattle.xf_graph.specs.Steps.{entries_before}
use Rattle.xf_graph.proofs.walk.enter_all.Given as goal

abbrev pub invariant-loop-vertex : goal.invariant-loop-vertex
invariant-loop-vertex l =
    entries_before (drop l.vertex-index l.vertices) l.steps.items ≡ entries_before l.vertices l.initial.steps.items
