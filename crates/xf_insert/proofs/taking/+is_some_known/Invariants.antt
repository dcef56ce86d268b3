use Rattle.std.proofs.Common.{length}
use Rattle.xf_insert.proofs.taking.+is_some_known.Given as goal

abbrev pub decreases-is_some_known : goal.decreases-is_some_known
decreases-is_some_known l = length l.nodes.now
