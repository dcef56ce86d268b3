use Rattle.std.proofs.Common.{◌≡◌, ◌≤◌, length, map, take, drop}
use Rattle.xf_tree_rows.specs.Rows.{Sized}
use Rattle.xf_tree_changes.specs.Trees.{unsized}
use Rattle.xf_tree_changes.proofs.tree.set_sizes.Given as goal

abbrev pub invariant-loop-at : goal.invariant-loop-at
invariant-loop-at l = record {
  first : l.start ≤ l.at;
  within : l.at ≤ length l.rows.items;
  sized : Sized (drop l.at l.rows.items);
  front : take l.at l.rows.items ≡ take l.at l.fn.rows.items;
  same : map unsized l.rows.items ≡ map unsized l.fn.rows.items;
  room : l.rows.capacity ≡ l.fn.rows.capacity;
}

abbrev pub decreases-loop-at : goal.decreases-loop-at
decreases-loop-at l = l.at
