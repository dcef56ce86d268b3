use Rattle.xf_law_recalculation.proofs.BindLemmas.LooseBinds.{any_bind_stays as stays_law}
use Rattle.xf_law_recalculation.proofs.BindLemmas.LooseInstances.{any_bind_of_instances, any_bind_stays_in_instances}
use Rattle.xf_law_recalculation.proofs.bind.any_bind_stays.Goals as goal

pub returns-clause-stays : goal.returns-clause-stays
returns-clause-stays c = stays_law

pub returns-clause-instances : goal.returns-clause-instances
returns-clause-instances c = any_bind_of_instances

pub returns-clause-in_instances : goal.returns-clause-in_instances
returns-clause-in_instances c = any_bind_stays_in_instances
