use Rattle.std.proofs.Common.{◌≡◌, length}
use Rattle.xf_tree_walks.specs.Found.{left_met}
use Rattle.xf_tree_walks.specs.Walks.{left_of, IsReady}
use Rattle.xf_tree_walks.proofs.found.found_by_steps.Given as goal

abbrev pub invariant-loop-at : goal.invariant-loop-at
invariant-loop-at l = record {
  ready : IsReady l.rows.items l.rest;
  same : left_met l.slots l.rows.items l.sought l.rest ≡ left_met l.slots l.rows.items l.sought l.fn.left;
}

abbrev pub decreases-loop-at : goal.decreases-loop-at
decreases-loop-at l = length (left_of l.slots l.rows.items l.rest)
