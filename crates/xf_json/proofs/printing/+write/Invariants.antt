use Rattle.std.proofs.Common.{◌≡◌, ◌++◌, drop}
use Rattle.xf_json.specs.Tokens.{tokens_of_children}
use Rattle.xf_json.proofs.printing.+write.Given as goal

abbrev pub invariant-write_children-loop-child : goal.invariant-write_children-loop-child
invariant-write_children-loop-child l = record {
  before : l.out.before ≡ l.fn.out.before;
  so_far : l.out.tokens ++ tokens_of_children (drop l.child-index l.children) ≡ l.fn.out.tokens ++ tokens_of_children l.children;
}
