use Rattle.std.proofs.Common.{◌≡◌, length}
use Rattle.xf_binds.specs.Kept.{committed}
use Rattle.xf_binds.specs.Table.{all_committed}
use Rattle.xf_binds.proofs.Tellings.{mapped_to}
use Rattle.xf_binds.proofs.table.commit_all.Given as goal

abbrev pub invariant-loop-at : goal.invariant-loop-at
invariant-loop-at l = record {
  long : length l.models.items ≡ l.count;
  so_far : mapped_to committed l.models.items l.at ≡ all_committed l.fn.models.items;
}
