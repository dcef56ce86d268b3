use Rattle.std.proofs.Common.{length}
use Rattle.xf_events.proofs.elements.+push_instances.Given as goal

abbrev pub decreases-push_instances : goal.decreases-push_instances
decreases-push_instances l = length l.instances.now
