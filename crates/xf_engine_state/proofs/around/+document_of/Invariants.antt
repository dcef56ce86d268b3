use Rattle.std.proofs.Common.{length}
use Rattle.xf_engine_state.proofs.around.+document_of.Given as goal

abbrev pub decreases-document_of : goal.decreases-document_of
decreases-document_of l = length l.instances.now
