use Rattle.std.proofs.Common.{length}
use Rattle.xf_engine_world.proofs.calls_made.drop_all.Given as goal

abbrev pub decreases-loop-calls : goal.decreases-loop-calls
decreases-loop-calls l = length l.calls
