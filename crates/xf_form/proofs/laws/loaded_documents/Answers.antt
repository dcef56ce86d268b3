use Rattle.xf_form.proofs.DocumentLaw.{loaded_documents}
use Rattle.xf_form.proofs.laws.loaded_documents.Goals as goal

pub returns : goal.returns
returns c = loaded_documents
