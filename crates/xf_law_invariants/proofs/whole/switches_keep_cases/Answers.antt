use Rattle.xf_law_invariants.proofs.WholeLemmas.Cases.{case_laws}
use Rattle.xf_law_invariants.proofs.whole.switches_keep_cases.Goals as goal

pub returns : goal.returns
returns c = case_laws
