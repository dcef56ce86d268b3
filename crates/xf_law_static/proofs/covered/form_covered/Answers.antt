use Rattle.xf_law_static.proofs.CoveredLemmas.FormLaw.{form_covered}
use Rattle.xf_law_static.proofs.covered.form_covered.Goals as goal

pub returns : goal.returns
returns c = form_covered
