use Rattle.std.proofs.Common.{length}
use Rattle.xf_eval_context.proofs.over.+are_told_live.Given as goal

abbrev pub decreases-are_told_live : goal.decreases-are_told_live
decreases-are_told_live l = length l.properties.now
