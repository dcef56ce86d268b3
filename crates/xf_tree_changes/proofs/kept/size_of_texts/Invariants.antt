use Rattle.std.proofs.Common.{◌≡◌, ◌≤◌, ◌*◌, ◌^◌, ℕ, map, take}
use Rattle.xf_def_forest.specs.Limits.{all_size}
use Rattle.xf_tree_walks.specs.Nodes.{node_of}
use Rattle.xf_tree_changes.specs.Texts.{text_row}
use Rattle.xf_tree_changes.proofs.kept.size_of_texts.Given as goal

abbrev pub invariant-loop-text : goal.invariant-loop-text
invariant-loop-text l = record {
  size : (depth : ℕ) → l.size ≡ all_size (map (node_of l.slots) (map (text_row depth) (take l.text-index l.texts)));
  small : l.size ≤ 2 ^ 66 * l.text-index;
}
