use Rattle.std.proofs.Common.{◌≡◌, ◌∷◌, ◌++◌, map}
use Rattle.std.specs.Prelude.{filter}
use Rattle.xf_eval_dependencies.specs.Asked.Lists.{has_list_of}
use Rattle.xf_eval_dependencies.proofs.asked.lists.push_down.Given as goal

abbrev pub invariant-loop-other : goal.invariant-loop-other
invariant-loop-other l = record {
  so_far : l.looks ≡ l.fn.looks ++ filter (has_list_of l.forest.forest.nodes) (l.fn.node.number ∷ map (λ n. n.number) l.yielded);
  whole : map (λ n. n.number) l.yielded ++ l.other-iterator ≡ l.initial.other-iterator;
}
