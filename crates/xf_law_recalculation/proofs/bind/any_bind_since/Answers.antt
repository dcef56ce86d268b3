use Rattle.xf_law_recalculation.proofs.BindLemmas.SinceNodes.{with_texts_carried, any_bind_since as since_law}
use Rattle.xf_law_recalculation.proofs.BindLemmas.BindHeld.{any_bind_held}
use Rattle.xf_law_recalculation.proofs.BindLemmas.BindSame.{document_kept, any_bind_held_same}
use Rattle.xf_law_recalculation.proofs.bind.any_bind_since.Goals as goal

pub returns-clause-with_texts : goal.returns-clause-with_texts
returns-clause-with_texts c = with_texts_carried

pub returns-clause-since : goal.returns-clause-since
returns-clause-since c = since_law

pub returns-clause-held : goal.returns-clause-held
returns-clause-held c = any_bind_held

pub returns-clause-documents : goal.returns-clause-documents
returns-clause-documents c = document_kept

pub returns-clause-same : goal.returns-clause-same
returns-clause-same c = any_bind_held_same
