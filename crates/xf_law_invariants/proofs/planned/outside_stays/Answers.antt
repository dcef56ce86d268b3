use Rattle.xf_law_invariants.proofs.PlannedLemmas.OutsideForests.{outside_laws}
use Rattle.xf_law_invariants.proofs.planned.outside_stays.Goals as goal

pub returns : goal.returns
returns c = outside_laws
