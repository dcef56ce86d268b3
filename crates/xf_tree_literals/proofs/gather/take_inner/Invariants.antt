use Rattle.std.proofs.Common.{◌≡◌, ◌++◌, vec_len}
use Rattle.xf_def_forest.specs.Literal.{attributes_in, trees_in, inner, outer}
use Rattle.xf_tree_literals.specs.Print.{stacked}
use Rattle.xf_tree_literals.proofs.gather.take_inner.Given as goal

abbrev pub invariant-loop-parts : goal.invariant-loop-parts
invariant-loop-parts g l = record {
  attributes : l.attributes.items ++ attributes_in (inner l.depth (stacked l.parts.items)) ≡ l.fn.attributes.items ++ attributes_in (inner l.depth (stacked l.fn.parts.items));
  trees : l.trees.items ++ trees_in (inner l.depth (stacked l.parts.items)) ≡ l.fn.trees.items ++ trees_in (inner l.depth (stacked l.fn.parts.items));
  left : outer l.depth (stacked l.parts.items) ≡ outer l.depth (stacked l.fn.parts.items);
}

abbrev pub decreases-loop-parts : goal.decreases-loop-parts
decreases-loop-parts g l = vec_len l.parts
