use Rattle.xf_law_recalculation.proofs.ChangeLemmas.DocumentsStay.{document_stays}
use Rattle.xf_law_recalculation.proofs.change.documents_stay.Goals as goal

pub returns : goal.returns
returns c = document_stays
