use Rattle.std.proofs.Common.{length}
use Rattle.xf_eval_context.proofs.over.+are_live.Given as goal

abbrev pub decreases-are_live : goal.decreases-are_live
decreases-are_live l = length l.nodes.now
