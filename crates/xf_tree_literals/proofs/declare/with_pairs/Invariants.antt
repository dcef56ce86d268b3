use Rattle.std.proofs.Common.{◌≡◌, reverse, vec_len}
use Rattle.xf_def_forest.specs.Printed.{with_pairs}
use Rattle.xf_tree_literals.proofs.declare.with_pairs.Given as goal

abbrev pub invariant-loop-pair : goal.invariant-loop-pair
invariant-loop-pair l = with_pairs l.left.items (reverse l.pairs.items) ≡ with_pairs l.fn.attributes.items (reverse l.fn.declared.items)

abbrev pub decreases-loop-pair : goal.decreases-loop-pair
decreases-loop-pair l = vec_len l.left
