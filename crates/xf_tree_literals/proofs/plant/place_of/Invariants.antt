use Rattle.std.proofs.Common.{◌≤◌, length, drop}
use Rattle.xf_tree_literals.specs.Contents.{AllLess}
use Rattle.xf_tree_literals.proofs.plant.place_of.Given as goal

abbrev pub invariant-loop-at : goal.invariant-loop-at
invariant-loop-at l = record {
  within : l.at ≤ length l.sorted;
  less : AllLess l.content (drop l.at l.sorted);
}

abbrev pub decreases-loop-at : goal.decreases-loop-at
decreases-loop-at l = l.at
