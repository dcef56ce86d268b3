use Rattle.std.proofs.Common.{◌≡◌, suc, ◌+◌, ◌-◌, ◌≤◌, take, drop, get_or}
use Rattle.xf_def_forest.specs.Forest.{is_element}
use Rattle.xf_tree_rows.specs.Rows.{no_row}
use Rattle.xf_tree_walks.specs.Kids.{kids_in}
use Rattle.xf_tree_walks.proofs.child.has_element.Given as goal

abbrev pub invariant-loop-next : goal.invariant-loop-next
invariant-loop-next l = record {
  first : l.above + 1 ≤ l.next;
  last : l.next ≤ l.end;
  none : kids_in is_element l.slots (suc (get_or l.rows.items l.above no_row).depth) (take (l.next - (l.above + 1)) (drop (l.above + 1) l.rows.items)) ≡ 0;
}

abbrev pub decreases-loop-next : goal.decreases-loop-next
decreases-loop-next l = l.end - l.next
