use Rattle.std.proofs.Common.{◌≡◌, ◌≤◌, ◌*◌, ◌^◌, length, map, take}
use Rattle.xf_def_forest.specs.Limits.{all_size}
use Rattle.xf_tree_walks.specs.Nodes.{node_of}
use Rattle.xf_tree_changes.specs.Texts.{children}
use Rattle.xf_tree_changes.proofs.kept.texts_in.Given as goal

abbrev pub invariant-loop-at : goal.invariant-loop-at
invariant-loop-at l = record {
  count : l.count ≡ length (children l.slots (take l.at l.rows));
  size : l.size ≡ all_size (map (node_of l.slots) (children l.slots (take l.at l.rows)));
  few : l.count ≤ l.at;
  small : l.size ≤ 2 ^ 66 * l.at;
}
