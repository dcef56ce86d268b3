use Rattle.std.proofs.Common.{◌≡◌, ◌≤◌, ◌*◌, ◌^◌, take}
use Rattle.xf_tree_changes.specs.Trees.{size_of_all}
use Rattle.xf_tree_changes.proofs.tree.size_of_tree.Given as goal

abbrev pub invariant-loop-part : goal.invariant-loop-part
invariant-loop-part l = record {
  so_far : l.size ≡ size_of_all (take l.part-index l.tree);
  small : l.size ≤ 2 ^ 66 * l.part-index;
}
