use Rattle.std.proofs.Common.{◌≤◌, ◌+◌}
use Rattle.xf_tree_rows.specs.Rows.{AllDeep}
use Rattle.xf_tree_walks.specs.Walks.{between}
use Rattle.xf_tree_walks.proofs.walk.climb_to.Given as goal

abbrev pub invariant-loop-at : goal.invariant-loop-at
invariant-loop-at l = record {
  least : l.above ≤ l.at;
  within : l.at ≤ l.from;
  deep : AllDeep (l.depth + 1) (between (l.at + 1) (l.from + 1) l.rows.items);
}

abbrev pub decreases-loop-at : goal.decreases-loop-at
decreases-loop-at l = l.at
