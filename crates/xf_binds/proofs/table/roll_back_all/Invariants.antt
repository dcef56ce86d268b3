use Rattle.std.proofs.Common.{◌≡◌, length}
use Rattle.xf_binds.specs.Kept.{rolled_back}
use Rattle.xf_binds.specs.Table.{all_rolled_back}
use Rattle.xf_binds.proofs.Tellings.{mapped_to}
use Rattle.xf_binds.proofs.table.roll_back_all.Given as goal

abbrev pub invariant-loop-at : goal.invariant-loop-at
invariant-loop-at l = record {
  long : length l.models.items ≡ l.count;
  so_far : mapped_to rolled_back l.models.items l.at ≡ all_rolled_back l.fn.models.items;
}
