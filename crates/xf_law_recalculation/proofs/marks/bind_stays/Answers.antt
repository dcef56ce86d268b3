use Rattle.xf_law_recalculation.proofs.MarksLemmas.BindStays.{bind_stays as stays_law}
use Rattle.xf_law_recalculation.proofs.MarksLemmas.BindInstances.{bind_of_instances, bind_stays_in_instances}
use Rattle.xf_law_recalculation.proofs.marks.bind_stays.Goals as goal

pub returns-clause-stays : goal.returns-clause-stays
returns-clause-stays c = stays_law

pub returns-clause-instances : goal.returns-clause-instances
returns-clause-instances c = bind_of_instances

pub returns-clause-in_instances : goal.returns-clause-in_instances
returns-clause-in_instances c = bind_stays_in_instances
