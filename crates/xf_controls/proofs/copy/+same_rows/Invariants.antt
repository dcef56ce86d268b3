use Rattle.std.proofs.Common.{length}
use Rattle.xf_controls.proofs.copy.+same_rows.Given as goal

abbrev pub decreases-same_rows : goal.decreases-same_rows
decreases-same_rows l = length l.one.now
