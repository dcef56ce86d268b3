use Rattle.std.proofs.Common.{◌≡◌, ◌++◌, drop}
use Rattle.xf_tree_literals.specs.Contents.{contents_of_all, IsPart}
use Rattle.xf_tree_literals.proofs.plant.+planting.Given as goal

abbrev pub invariant-push_all-loop-lit : goal.invariant-push_all-loop-lit
invariant-push_all-loop-lit l = record {
  so_far : l.tree.items ++ contents_of_all l.prefixes (drop l.lit-index l.lits) l.space l.depth ≡ l.fn.tree.items ++ contents_of_all l.prefixes l.lits l.space l.depth;
  part : IsPart l.depth (contents_of_all l.prefixes (drop l.lit-index l.lits) l.space l.depth) → IsPart l.depth (contents_of_all l.prefixes l.lits l.space l.depth);
}
