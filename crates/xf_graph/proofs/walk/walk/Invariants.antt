use Rattle.xf_graph.specs.Marks.{mark_of}
use Rattle.xf_graph.proofs.WalkState.{IsWalk}
use Rattle.xf_graph.proofs.WalkMeasure.{AreKnown, to_do}
use Rattle.xf_graph.proofs.walk.walk.Given as goal

abbrev pub invariant-loop-step : goal.invariant-loop-step
invariant-loop-step l = record {
  state : IsWalk l.readers l.roots (mark_of l.marks) l.steps.items l.left.items;
  known : AreKnown l.readers l.roots l.steps.items;
}

abbrev pub decreases-loop-step : goal.decreases-loop-step
decreases-loop-step l = to_do l.readers l.roots (mark_of l.marks) l.steps.items
