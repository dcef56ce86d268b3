use Rattle.std.proofs.Common.{false, ◌≡◌, ◌++◌, ◌-◌}
use Rattle.xf_tree_rows.specs.Rows.{AllDeep}
use Rattle.xf_tree_walks.specs.Nodes.{is_kin}
use Rattle.xf_tree_walks.specs.Found.{sought_within}
use Rattle.xf_tree_walks.specs.Walks.{between}
use Rattle.xf_tree_walks.proofs.chosen.push_tops.Given as goal

abbrev pub invariant-loop-next : goal.invariant-loop-next
invariant-loop-next l = record {
  same : l.found ++ sought_within l.slots l.rows.items l.sought (is_kin l.depth false) l.next l.end ≡ l.initial.found ++ sought_within l.slots l.rows.items l.sought (is_kin l.depth false) l.fn.at l.end;
  deep : AllDeep l.depth (between l.next l.end l.rows.items);
}

abbrev pub decreases-loop-next : goal.decreases-loop-next
decreases-loop-next l = l.end - l.next
