use Rattle.std.proofs.Common.{◌≡◌, ◌≤◌, length, map, drop}
use Rattle.xf_tree_literals.specs.Print.{stacked, placed, lits_in}
use Rattle.xf_tree_literals.proofs.print.lits_in.Given as goal

abbrev pub invariant-loop-at : goal.invariant-loop-at
invariant-loop-at l = record {
  within : l.at ≤ length l.lines;
  so_far : stacked l.parts.items ≡ lits_in l.prefixes (map (placed l.slots) (drop l.at l.lines));
}

abbrev pub decreases-loop-at : goal.decreases-loop-at
decreases-loop-at l = l.at
