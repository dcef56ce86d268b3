use Rattle.std.proofs.Common.{◌≡◌, ◌+◌, ◌*◌}
use Rattle.xf_snap.specs.Reading.{tree_at, several}
use Rattle.xf_snap.proofs.SeveralLemmas.{with_front}
use Rattle.xf_snap.proofs.reading.+trees.Given as goal

abbrev pub decreases-element_at : goal.decreases-element_at
decreases-element_at l = 3 * l.depth

abbrev pub decreases-tree_at : goal.decreases-tree_at
decreases-tree_at l = 3 * l.depth + 1

abbrev pub decreases-trees_at : goal.decreases-trees_at
decreases-trees_at l = 3 * l.depth + 2

abbrev pub invariant-trees_at-loop-left : goal.invariant-trees_at-loop-left
invariant-trees_at-loop-left l = with_front l.trees.items (several (tree_at l.depth) l.left l.rest) ≡ several (tree_at l.depth) l.count l.bytes

abbrev pub decreases-trees_at-loop-left : goal.decreases-trees_at-loop-left
decreases-trees_at-loop-left l = l.left
