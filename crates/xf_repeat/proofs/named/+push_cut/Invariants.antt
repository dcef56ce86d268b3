use Rattle.std.proofs.Common.{length}
use Rattle.xf_repeat.proofs.named.+push_cut.Given as goal

abbrev pub decreases-push_cut : goal.decreases-push_cut
decreases-push_cut l = length l.repeats.now
