use Rattle.std.proofs.Common.{◌≡◌, ◌++◌, false, map}
use Rattle.std.specs.List.{list_any}
use Rattle.xf_def_forest.specs.Forest.{content_at}
use Rattle.xf_eval_shape.specs.Spots.{is_element_in}
use Rattle.xf_submit.proofs.nodes.has_elements.Given as goal

abbrev pub invariant-loop-child : goal.invariant-loop-child
invariant-loop-child l = record {
  none : list_any (λ k. is_element_in (content_at k l.forest.forest.nodes)) (map (λ n. n.number) l.yielded) ≡ false;
  whole : map (λ n. n.number) l.yielded ++ l.child-iterator ≡ l.initial.child-iterator;
}
