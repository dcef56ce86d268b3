use Rattle.std.proofs.Common.{false, ◌≡◌, ◌-◌}
use Rattle.xf_tree_rows.specs.Rows.{AllDeep}
use Rattle.xf_tree_walks.specs.Nodes.{is_kin}
use Rattle.xf_tree_walks.specs.Walks.{between, chosen}
use Rattle.xf_tree_walks.proofs.walk.next_kin.Given as goal

abbrev pub invariant-loop-next : goal.invariant-loop-next
invariant-loop-next l = record {
  same : chosen l.slots (is_kin l.depth false) (between l.next l.end l.rows.items) ≡ chosen l.slots (is_kin l.depth false) (between l.at l.end l.rows.items);
  deep : AllDeep l.depth (between l.next l.end l.rows.items);
}

abbrev pub decreases-loop-next : goal.decreases-loop-next
decreases-loop-next l = l.end - l.next
