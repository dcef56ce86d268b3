use Rattle.std.proofs.Common.{length}
use Rattle.xf_repeat.proofs.named.+push_indexed.Given as goal

abbrev pub decreases-push_indexed : goal.decreases-push_indexed
decreases-push_indexed l = length l.repeats.now
