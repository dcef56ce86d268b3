use Rattle.std.proofs.Common.{◌≡◌, ◌<◌, ◌≤◌, ◌+◌, false}
use Rattle.xf_tree_walks.specs.Nodes.{is_kin}
use Rattle.xf_tree_walks.specs.Walks.{between, chosen}
use Rattle.xf_tree_walks.proofs.walk.last_kin.Given as goal

abbrev pub invariant-loop-next : goal.invariant-loop-next
invariant-loop-next l = record {
  least : l.above ≤ l.next;
  within : l.next < l.at;
  same : chosen l.slots (is_kin l.depth false) (between (l.above + 1) (l.next + 1) l.rows.items) ≡ chosen l.slots (is_kin l.depth false) (between (l.above + 1) l.at l.rows.items);
}

abbrev pub decreases-loop-next : goal.decreases-loop-next
decreases-loop-next l = l.next
