use Rattle.std.proofs.Common.{◌≡◌, reverse, vec_len}
use Rattle.xf_tree_literals.specs.Print.{left_at}
use Rattle.xf_tree_literals.proofs.spaces.leave.Given as goal

abbrev pub invariant-loop-around : goal.invariant-loop-around
invariant-loop-around l = left_at l.depth (reverse l.around.items) ≡ left_at l.depth (reverse l.fn.around.items)

abbrev pub decreases-loop-around : goal.decreases-loop-around
decreases-loop-around l = vec_len l.around
