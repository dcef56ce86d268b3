use Rattle.xf_law_recalculation.proofs.BindLemmas.AppliedEverywhere.{applied_of_instances, applied_stands}
use Rattle.xf_law_recalculation.proofs.bind.all_binds.Goals as goal

pub returns-clause-instances : goal.returns-clause-instances
returns-clause-instances c = applied_of_instances

pub returns-clause-stand : goal.returns-clause-stand
returns-clause-stand c = applied_stands
