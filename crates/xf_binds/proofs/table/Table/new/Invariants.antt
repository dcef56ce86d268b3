use Rattle.std.proofs.Common.{◌≡◌, ◌-◌, ◌≤◌, replicate, vec_len}
use Rattle.xf_binds.specs.Kept.{no_kept}
use Rattle.xf_binds.proofs.table.Table.new.Given as goal

abbrev pub invariant-loop-alloc : goal.invariant-loop-alloc
invariant-loop-alloc l = record {
  so_far : l.kept.items ≡ replicate (vec_len l.kept) no_kept;
  within : vec_len l.kept ≤ l.count;
  count : l.count ≡ l.models;
}

abbrev pub decreases-loop-alloc : goal.decreases-loop-alloc
decreases-loop-alloc l = l.count - vec_len l.kept
