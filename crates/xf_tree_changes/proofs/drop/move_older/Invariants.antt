use Rattle.std.proofs.Common.{◌≡◌, ◌-◌, length}
use Rattle.xf_tree_changes.proofs.MoveOlderLemmas.{Moving}
use Rattle.xf_tree_changes.proofs.drop.move_older.Given as goal

abbrev pub invariant-loop-at : goal.invariant-loop-at
invariant-loop-at l = record {
  moving : Moving l.fn.slots l.slots l.fn.rows.items l.rows.items l.fn.number l.at l.to l.fn.total l.total l.fn.size l.size;
  room : l.rows.capacity ≡ l.fn.rows.capacity;
}

abbrev pub decreases-loop-at : goal.decreases-loop-at
decreases-loop-at l = length l.rows.items - l.at
