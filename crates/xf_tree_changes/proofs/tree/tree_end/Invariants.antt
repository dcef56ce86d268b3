use Rattle.std.proofs.Common.{◌≡◌, ◌≤◌, ◌+◌, ◌-◌, length, drop}
use Rattle.xf_tree_rows.specs.Rows.{deeper}
use Rattle.xf_tree_changes.proofs.tree.tree_end.Given as goal

abbrev pub invariant-loop-next : goal.invariant-loop-next
invariant-loop-next l = record {
  first : l.at + 1 ≤ l.next;
  within : l.next ≤ length l.rows.items;
  so_far : l.next + deeper l.top.depth (drop l.next l.rows.items) ≡ l.at + 1 + deeper l.top.depth (drop (l.at + 1) l.rows.items);
}

abbrev pub decreases-loop-next : goal.decreases-loop-next
decreases-loop-next l = length l.rows.items - l.next
