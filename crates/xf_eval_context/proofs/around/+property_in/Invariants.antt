use Rattle.std.proofs.Common.{length}
use Rattle.xf_eval_context.proofs.around.+property_in.Given as goal

abbrev pub decreases-property_in : goal.decreases-property_in
decreases-property_in l = length l.properties.now
