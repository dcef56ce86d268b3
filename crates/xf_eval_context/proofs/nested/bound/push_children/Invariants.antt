use Rattle.std.proofs.Common.{◌≡◌, ◌++◌, map}
use Rattle.xf_eval_context.proofs.nested.bound.push_children.Given as goal

abbrev pub invariant-loop-child : goal.invariant-loop-child
invariant-loop-child l = record {
  so_far : l.found ≡ l.initial.found ++ map (λ n. n.number) l.yielded;
  whole : map (λ n. n.number) l.yielded ++ l.child-iterator ≡ l.initial.child-iterator;
}
