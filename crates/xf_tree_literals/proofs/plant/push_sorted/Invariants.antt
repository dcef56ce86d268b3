use Rattle.std.proofs.Common.{◌≡◌, ◌++◌, reverse, vec_len}
use Rattle.xf_def_forest.specs.Plant.{at_depth}
use Rattle.xf_tree_literals.specs.Contents.{AllSmall}
use Rattle.xf_tree_literals.proofs.plant.push_sorted.Given as goal

abbrev pub invariant-loop-content : goal.invariant-loop-content
invariant-loop-content l = record {
  so_far : l.tree.items ++ at_depth l.depth (reverse l.left.items) ≡ l.fn.tree.items ++ at_depth l.depth (reverse l.fn.sorted.items);
  small : AllSmall (reverse l.left.items) → AllSmall (reverse l.fn.sorted.items);
}

abbrev pub decreases-loop-content : goal.decreases-loop-content
decreases-loop-content l = vec_len l.left
