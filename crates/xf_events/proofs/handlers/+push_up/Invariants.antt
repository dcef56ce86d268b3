use Rattle.std.proofs.Common.{length}
use Rattle.xf_events.proofs.handlers.+push_up.Given as goal

abbrev pub decreases-push_up : goal.decreases-push_up
decreases-push_up l = length l.around.now
