use Rattle.std.proofs.Common.{◌≡◌, ◌-◌}
use Rattle.xf_tree_walks.specs.Found.{sought_within}
use Rattle.xf_tree_walks.specs.Walks.{is_plain}
use Rattle.xf_tree_walks.proofs.found.found_in_rows.Given as goal

abbrev pub invariant-loop-next : goal.invariant-loop-next
invariant-loop-next l = sought_within l.slots l.rows.items l.sought is_plain l.next l.end ≡ sought_within l.slots l.rows.items l.sought is_plain l.at l.end

abbrev pub decreases-loop-next : goal.decreases-loop-next
decreases-loop-next l = l.end - l.next
