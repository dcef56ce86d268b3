use Rattle.std.proofs.Common.{◌≡◌, ◌-◌, ◌≤◌, [], length, drop}
use Rattle.xf_tree_walks.specs.Reads.{pieces_left}
use Rattle.xf_tree_walks.proofs.pieces.next_text.Given as goal

abbrev pub invariant-loop-at : goal.invariant-loop-at
invariant-loop-at l = (l.at ≤ length l.rows) × (pieces_left l.slots [] (drop l.at l.rows) ≡ pieces_left l.slots [] l.rows)

abbrev pub decreases-loop-at : goal.decreases-loop-at
decreases-loop-at l = length l.rows - l.at
