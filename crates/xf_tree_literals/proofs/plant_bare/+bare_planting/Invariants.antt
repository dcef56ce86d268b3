use Rattle.std.proofs.Common.{◌≡◌, ◌++◌, drop}
use Rattle.xf_tree_literals.specs.Contents.{bare_all_at, IsPart}
use Rattle.xf_tree_literals.proofs.plant_bare.+bare_planting.Given as goal

abbrev pub invariant-push_all-loop-tree : goal.invariant-push_all-loop-tree
invariant-push_all-loop-tree l = record {
  so_far : l.contents.items ++ bare_all_at l.prefixes (drop l.tree-index l.trees) l.depth ≡ l.fn.contents.items ++ bare_all_at l.prefixes l.trees l.depth;
  part : IsPart l.depth (bare_all_at l.prefixes (drop l.tree-index l.trees) l.depth) → IsPart l.depth (bare_all_at l.prefixes l.trees l.depth);
}
