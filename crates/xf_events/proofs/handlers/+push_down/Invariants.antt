use Rattle.std.proofs.Common.{length}
use Rattle.xf_events.proofs.handlers.+push_down.Given as goal

abbrev pub decreases-push_down : goal.decreases-push_down
decreases-push_down l = length l.around.now
