use Rattle.std.proofs.Common.{◌≡◌, length, slice_get}
use Rattle.xf_tree_walks.specs.Found.{left_met}
use Rattle.xf_tree_walks.specs.Walks.{IsReady}
use Rattle.xf_tree_walks.proofs.chosen_row.row_left.Given as goal

abbrev pub invariant-loop-at : goal.invariant-loop-at
invariant-loop-at l = record {
  ready : IsReady l.rows.items l.rest;
  so_far : slice_get (left_met l.slots l.rows.items l.sought l.rest) l.before ≡ slice_get (left_met l.slots l.rows.items l.sought l.fn.left) l.fn.place;
}

abbrev pub decreases-loop-at : goal.decreases-loop-at
decreases-loop-at l = length (left_met l.slots l.rows.items l.sought l.rest)
