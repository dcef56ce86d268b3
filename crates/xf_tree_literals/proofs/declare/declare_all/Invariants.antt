use Rattle.std.proofs.Common.{◌≡◌, ◌≤◌, length, map, drop, reverse}
use Rattle.xf_def_forest.specs.Printed.{prefixes_in}
use Rattle.xf_tree_walks.specs.Nodes.{node_of}
use Rattle.xf_tree_literals.specs.Print.{AreDeclared}
use Rattle.xf_tree_literals.proofs.declare.declare_all.Given as goal

abbrev pub invariant-loop-at : goal.invariant-loop-at
invariant-loop-at l = record {
  within : l.at ≤ length l.rows;
  so_far : reverse l.pairs.items ≡ prefixes_in l.prefixes (map (node_of l.slots) (drop l.at l.rows));
  seen : AreDeclared l.seen.keys (reverse l.pairs.items);
}

abbrev pub decreases-loop-at : goal.decreases-loop-at
decreases-loop-at l = l.at
