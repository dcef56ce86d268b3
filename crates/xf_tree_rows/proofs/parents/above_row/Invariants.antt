use Rattle.std.proofs.Common.{◌≡◌, ◌≤◌, take, reverse, get_or}
use Rattle.xf_tree_rows.specs.Rows.{less_deep, parent_row_of, no_row}
use Rattle.xf_tree_rows.proofs.parents.above_row.Given as goal

abbrev pub invariant-loop-left : goal.invariant-loop-left
invariant-loop-left l = record {
  within : l.left ≤ l.at;
  so_far : less_deep (get_or l.rows.items l.at no_row).depth (reverse (take l.left l.rows.items)) ≡ parent_row_of l.rows.items l.at;
}

abbrev pub decreases-loop-left : goal.decreases-loop-left
decreases-loop-left l = l.left
