use Rattle.std.proofs.Common.{◌+◌, ◌-◌, ◌≤◌, ◌∷◌, length, drop}
use Rattle.xf_graph.specs.Marks.{mark_of}
use Rattle.xf_graph.proofs.WalkState.{unmarked_cost, joined}
use Rattle.xf_graph.proofs.MeasureLemmas.{IsSearch}
use Rattle.xf_graph.proofs.cycle.measure.Given as goal

abbrev pub invariant-loop-at : goal.invariant-loop-at
invariant-loop-at l = record {
  search : IsSearch l.readers l.target (mark_of l.marks) (drop l.at l.queue.items) (length l.queue.items);
  within : l.at ≤ length l.queue.items;
}

abbrev pub decreases-loop-at : goal.decreases-loop-at
decreases-loop-at l = unmarked_cost l.readers (mark_of l.marks) (l.target ∷ joined l.readers) + (length l.queue.items - l.at)
