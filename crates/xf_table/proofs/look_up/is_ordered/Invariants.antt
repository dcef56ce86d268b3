use Rattle.std.proofs.Common.{◌≡◌, length}
use Rattle.xf_table.specs.Rows.{entries_of, rises}
use Rattle.xf_table.proofs.look_up.is_ordered.Given as goal

abbrev pub invariant-loop-rest : goal.invariant-loop-rest
invariant-loop-rest l = rises (entries_of l.rest) ≡ rises (entries_of l.rows)

abbrev pub decreases-loop-rest : goal.decreases-loop-rest
decreases-loop-rest l = length l.rest
