use Rattle.std.proofs.Common.{◌≡◌, ◌++◌, length}
use Rattle.xf_tree_walks.specs.Found.{left_met}
use Rattle.xf_tree_walks.specs.Walks.{IsReady}
use Rattle.xf_tree_walks.proofs.chosen.push_by_steps.Given as goal

abbrev pub invariant-loop-at : goal.invariant-loop-at
invariant-loop-at l = record {
  ready : IsReady l.rows.items l.rest;
  so_far : l.found ++ left_met l.slots l.rows.items l.sought l.rest ≡ l.fn.found ++ left_met l.slots l.rows.items l.sought l.fn.left;
}

abbrev pub decreases-loop-at : goal.decreases-loop-at
decreases-loop-at l = length (left_met l.slots l.rows.items l.sought l.rest)
