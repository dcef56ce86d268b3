use Rattle.std.proofs.Common.{◌≡◌}
use Rattle.xf_tree_rows.specs.Rows.{grown}
use Rattle.xf_tree_rows.proofs.ClimbLemmas.{Climbing}
use Rattle.xf_tree_rows.proofs.moves.grow.Given as goal

abbrev pub invariant-loop-left : goal.invariant-loop-left
invariant-loop-left l = record {
  climbs : Climbing (grown l.fn.by) l.fn.rows.items l.rows.items l.fn.at l.fn.depth l.left l.below;
  room : l.rows.capacity ≡ l.fn.rows.capacity;
}

abbrev pub decreases-loop-left : goal.decreases-loop-left
decreases-loop-left l = l.left
