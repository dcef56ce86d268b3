use Rattle.std.proofs.Common.{◌≡◌, ◌≤◌, ◌+◌, ◌-◌, map, drop, get_or}
use Rattle.xf_tree_rows.specs.Rows.{no_row}
use Rattle.xf_tree_walks.specs.Nodes.{node_of}
use Rattle.xf_tree_changes.specs.Below.{child_at}
use Rattle.xf_tree_changes.proofs.attach.child_place.Given as goal

abbrev pub invariant-loop-next : goal.invariant-loop-next
invariant-loop-next l = record {
  first : l.above + 1 ≤ l.next;
  last : l.next ≤ l.end;
  so_far : l.next + child_at ((get_or l.rows.items l.above no_row).depth + 1) l.left (map (node_of l.slots) (drop l.next l.rows.items)) ≡ l.above + 1 + child_at ((get_or l.rows.items l.above no_row).depth + 1) l.place (map (node_of l.slots) (drop (l.above + 1) l.rows.items));
}

abbrev pub decreases-loop-next : goal.decreases-loop-next
decreases-loop-next l = l.end - l.next
