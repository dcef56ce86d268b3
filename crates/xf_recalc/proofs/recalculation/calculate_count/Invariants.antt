use Rattle.std.proofs.Common.{◌≡◌, ◌≤◌, length, take}
use Rattle.xf_def_model.specs.Settled.{calculates}
use Rattle.xf_binds.specs.Table.{kept_at}
use Rattle.xf_recalc.proofs.recalculation.calculate_count.Given as goal

abbrev pub invariant-loop-at : goal.invariant-loop-at
invariant-loop-at l = record {
  so_far : l.count ≡ length (calculates (take l.at (kept_at l.table l.model).entries));
  few : l.count ≤ l.at;
}
