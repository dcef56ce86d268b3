use Rattle.xf_graph.specs.Marks.{mark_of}
use Rattle.xf_graph.specs.Search.{ArePeeled}
use Rattle.xf_graph.proofs.PeelLemmas.{AreQueued, to_peel}
use Rattle.xf_graph.proofs.peel.peel.Given as goal

abbrev pub invariant-loop-vertex : goal.invariant-loop-vertex
invariant-loop-vertex l = record {
  peeled : ArePeeled l.ahead (mark_of l.peeled);
  queued : AreQueued l.ahead l.initial.queue.items l.queue.items;
}

abbrev pub decreases-loop-vertex : goal.decreases-loop-vertex
decreases-loop-vertex l = to_peel l.ahead l.initial.queue.items (mark_of l.peeled) l.queue.items
