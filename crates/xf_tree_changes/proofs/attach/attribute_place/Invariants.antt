use Rattle.std.proofs.Common.{◌≡◌, ◌≤◌, ◌+◌, ◌-◌, length, map, drop, get_or}
use Rattle.xf_tree_rows.specs.Rows.{no_row}
use Rattle.xf_tree_walks.specs.Nodes.{node_of}
use Rattle.xf_tree_changes.specs.Below.{attribute_at}
use Rattle.xf_tree_changes.proofs.attach.attribute_place.Given as goal

abbrev pub invariant-loop-ahead : goal.invariant-loop-ahead
invariant-loop-ahead l = record {
  last : l.next ≤ length l.rows.items;
  so_far : l.next + attribute_at ((get_or l.rows.items l.above no_row).depth + 1) l.ahead (map (node_of l.slots) (drop l.next l.rows.items)) ≡ l.above + 1 + attribute_at ((get_or l.rows.items l.above no_row).depth + 1) l.place (map (node_of l.slots) (drop (l.above + 1) l.rows.items));
}

abbrev pub decreases-loop-ahead : goal.decreases-loop-ahead
decreases-loop-ahead l = length l.rows.items - l.next
