use Rattle.std.proofs.Common.{◌≡◌, suc, ◌+◌, ◌-◌, ◌≤◌, take, drop, get_or}
use Rattle.xf_tree_rows.specs.Rows.{no_row}
use Rattle.xf_tree_walks.specs.Kids.{is_no_attribute, kids_in}
use Rattle.xf_tree_walks.proofs.child.has_children.Given as goal

abbrev pub invariant-loop-next : goal.invariant-loop-next
invariant-loop-next l = record {
  first : l.above + 1 ≤ l.next;
  last : l.next ≤ l.end;
  so_far : l.left + kids_in is_no_attribute l.slots (suc (get_or l.rows.items l.above no_row).depth) (take (l.next - (l.above + 1)) (drop (l.above + 1) l.rows.items)) ≡ l.least;
}

abbrev pub decreases-loop-next : goal.decreases-loop-next
decreases-loop-next l = l.end - l.next
