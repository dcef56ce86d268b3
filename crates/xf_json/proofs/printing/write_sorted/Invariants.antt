use Rattle.std.proofs.Common.{◌≡◌, ◌++◌, take}
use Rattle.json.specs.Tree.{members_tokens}
use Rattle.serde_json.specs.Data.{no_members}
use Rattle.serde_json.specs.Written.{members_outline}
use Rattle.xf_json.specs.Printed.{with_pairs}
use Rattle.xf_json.specs.Tokens.{tokens_of_pairs, members_of_refs}
use Rattle.xf_json.proofs.printing.write_sorted.Given as goal

abbrev pub invariant-loop-pair : goal.invariant-loop-pair
invariant-loop-pair l = members_of_refs l.sorted.entries ≡ with_pairs no_members (take l.pair-index l.attributes)

abbrev pub invariant-loop-name : goal.invariant-loop-name
invariant-loop-name l = record {
  before : l.out.before ≡ l.fn.out.before;
  so_far : l.out.tokens ++ members_tokens (members_outline (members_of_refs l.name-iterator)) ≡ l.fn.out.tokens ++ tokens_of_pairs l.attributes;
}
