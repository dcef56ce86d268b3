use Rattle.std.proofs.Common.{◌≡◌, ◌≤◌, ◌+◌, ◌-◌, take, drop, get_or}
use Rattle.xf_tree_rows.specs.Rows.{no_row}
use Rattle.xf_tree_walks.specs.Nodes.{kin_in}
use Rattle.xf_tree_walks.proofs.lookup.place_of.Given as goal

abbrev pub invariant-loop-next : goal.invariant-loop-next
invariant-loop-next l = record {
  first : l.above + 1 ≤ l.next;
  last : l.next ≤ l.at;
  count : l.place ≤ l.next;
  so_far : l.place ≡ kin_in l.slots (get_or l.rows.items l.at no_row).depth l.wanted (take (l.next - (l.above + 1)) (drop (l.above + 1) l.rows.items));
}

abbrev pub decreases-loop-next : goal.decreases-loop-next
decreases-loop-next l = l.at - l.next
