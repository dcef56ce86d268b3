use Rattle.std.proofs.Common.{length}
use Rattle.xf_engine_state.proofs.first.+push_documents.Given as goal

abbrev pub decreases-push_documents : goal.decreases-push_documents
decreases-push_documents l = length l.instances.now
