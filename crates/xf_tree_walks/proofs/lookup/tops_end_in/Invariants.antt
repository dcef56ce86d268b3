use Rattle.std.proofs.Common.{◌≡◌, ◌≤◌, ◌-◌, ◌++◌, length, map, take, drop}
use Rattle.xf_def_forest.specs.Changes.{in_instances}
use Rattle.xf_tree_walks.specs.Nodes.{node_of}
use Rattle.xf_tree_walks.proofs.lookup.tops_end_in.Given as goal

abbrev pub invariant-loop-at : goal.invariant-loop-at
invariant-loop-at l = record {
  within : l.at ≤ length l.rows;
  so_far : map (node_of l.slots) (take l.at l.rows) ++ in_instances (map (node_of l.slots) (drop l.at l.rows)) ≡ in_instances (map (node_of l.slots) l.rows);
}

abbrev pub decreases-loop-at : goal.decreases-loop-at
decreases-loop-at l = length l.rows - l.at
