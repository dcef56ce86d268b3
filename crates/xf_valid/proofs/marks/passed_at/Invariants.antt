use Rattle.std.proofs.Common.{◌≤◌, vec_len}
use Rattle.xf_valid.specs.Chain.{AreTold}
use Rattle.xf_valid.proofs.marks.passed_at.Given as goal

abbrev pub invariant-loop-at : goal.invariant-loop-at
invariant-loop-at l = record {
  within : l.at ≤ vec_len l.chain;
  told : AreTold l.table l.forest.forest.nodes l.chain.items;
}

abbrev pub decreases-loop-at : goal.decreases-loop-at
decreases-loop-at l = l.at
