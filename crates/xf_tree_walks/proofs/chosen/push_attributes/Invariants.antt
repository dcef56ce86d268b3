use Rattle.std.proofs.Common.{◌≡◌, ◌++◌, ◌-◌, length}
use Rattle.xf_tree_walks.specs.declared.walk.Left.TheVariants.{Attributes}
use Rattle.xf_tree_walks.specs.Found.{left_met}
use Rattle.xf_tree_walks.proofs.chosen.push_attributes.Given as goal

abbrev pub invariant-loop-next : goal.invariant-loop-next
invariant-loop-next l = l.found ++ left_met l.slots l.rows.items l.sought (Attributes l.next l.depth) ≡ l.initial.found ++ left_met l.slots l.rows.items l.sought (Attributes l.fn.at l.depth)

abbrev pub decreases-loop-next : goal.decreases-loop-next
decreases-loop-next l = length l.rows.items - l.next
