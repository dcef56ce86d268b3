use Rattle.std.proofs.Common.{◌≡◌, ◌-◌}
use Rattle.xf_tree_rows.specs.Rows.{AllDeep}
use Rattle.xf_tree_contents.specs.Seen.{seen_content}
use Rattle.xf_tree_walks.specs.Siblings.{is_like}
use Rattle.xf_tree_walks.specs.Walks.{between, chosen}
use Rattle.xf_tree_walks.proofs.siblings.has_like.Given as goal

abbrev pub invariant-loop-next : goal.invariant-loop-next
invariant-loop-next l = record {
  same : chosen l.slots (is_like l.depth (seen_content l.like)) (between l.next l.to l.rows.items) ≡ chosen l.slots (is_like l.depth (seen_content l.like)) (between l.from l.to l.rows.items);
  deep : AllDeep l.depth (between l.next l.to l.rows.items);
}

abbrev pub decreases-loop-next : goal.decreases-loop-next
decreases-loop-next l = l.to - l.next
