use Rattle.std.proofs.Common.{◌≡◌, ◌++◌, drop}
use Rattle.xf_json.specs.Tokens.{tokens_in_order}
use Rattle.xf_json.proofs.printing.write_in_order.Given as goal

abbrev pub invariant-loop-pair : goal.invariant-loop-pair
invariant-loop-pair l = record {
  before : l.out.before ≡ l.fn.out.before;
  so_far : l.out.tokens ++ tokens_in_order (drop l.pair-index l.attributes) ≡ l.fn.out.tokens ++ tokens_in_order l.attributes;
}
