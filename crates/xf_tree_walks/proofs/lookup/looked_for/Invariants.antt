use Rattle.std.proofs.Common.{◌≡◌, false, map, take}
use Rattle.xf_def_forest.specs.Forest.{has_number}
use Rattle.xf_tree_walks.specs.Nodes.{node_of}
use Rattle.xf_tree_walks.proofs.lookup.looked_for.Given as goal

abbrev pub invariant-loop-at : goal.invariant-loop-at
invariant-loop-at l = has_number l.node.number (map (node_of l.slots) (take l.at l.rows.items)) ≡ false
