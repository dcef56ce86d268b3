use Rattle.xf_law_recalculation.proofs.DocumentLemmas.Follow.{documents_follow}
use Rattle.xf_law_recalculation.proofs.document.documents_follow.Goals as goal

pub returns : goal.returns
returns c = documents_follow
