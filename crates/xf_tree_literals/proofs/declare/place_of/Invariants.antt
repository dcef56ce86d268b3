use Rattle.std.proofs.Common.{◌≡◌, ◌≤◌, ◌++◌, ℕ, List, length, take, drop, reverse}
use Rattle.xf_def_forest.specs.Printed.{pair, with_pair}
use Rattle.xf_tree_literals.proofs.declare.place_of.Given as goal

abbrev pub invariant-loop-at : goal.invariant-loop-at
invariant-loop-at l = record {
  within : l.at ≤ length l.pairs;
  so_far : (text : List ℕ) → with_pair (pair l.name text) (reverse l.pairs) ≡ reverse (drop l.at l.pairs) ++ with_pair (pair l.name text) (reverse (take l.at l.pairs));
}

abbrev pub decreases-loop-at : goal.decreases-loop-at
decreases-loop-at l = l.at
