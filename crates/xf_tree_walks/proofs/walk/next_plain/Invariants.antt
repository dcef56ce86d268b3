use Rattle.std.proofs.Common.{◌≡◌, ◌-◌}
use Rattle.xf_tree_walks.specs.Walks.{between, chosen, is_plain}
use Rattle.xf_tree_walks.proofs.walk.next_plain.Given as goal

abbrev pub invariant-loop-next : goal.invariant-loop-next
invariant-loop-next l = chosen l.slots is_plain (between l.next l.end l.rows.items) ≡ chosen l.slots is_plain (between l.at l.end l.rows.items)

abbrev pub decreases-loop-next : goal.decreases-loop-next
decreases-loop-next l = l.end - l.next
