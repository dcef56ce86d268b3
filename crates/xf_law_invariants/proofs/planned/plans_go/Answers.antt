use Rattle.xf_law_invariants.proofs.PlannedLemmas.Plans.{plan_laws}
use Rattle.xf_law_invariants.proofs.planned.plans_go.Goals as goal

pub returns : goal.returns
returns c = plan_laws
