use Rattle.std.proofs.Common.{◌≡◌, ◌<◌, length, get_or}
use Rattle.xf_tree_rows.specs.Rows.{no_row}
use Rattle.xf_tree_walks.specs.Reads.{last_row}
use Rattle.xf_tree_walks.specs.Walks.{ancestor_rows}
use Rattle.xf_tree_walks.proofs.lookup.top_row.Given as goal

abbrev pub invariant-loop-above : goal.invariant-loop-above
invariant-loop-above l = record {
  within : l.top < length l.rows.items;
  same : last_row (get_or l.rows.items l.top no_row) (ancestor_rows l.rows.items l.top) ≡ last_row (get_or l.rows.items l.at no_row) (ancestor_rows l.rows.items l.at);
}

abbrev pub decreases-loop-above : goal.decreases-loop-above
decreases-loop-above l = l.top
