use Rattle.xf_law_recalculation.proofs.AgreeLemmas.HungChanges.{hung_text, hung_detached, hung_placed, hung_grown, hung_copied, hung_instances}
use Rattle.xf_law_recalculation.proofs.agree.hung_changes.Goals as goal

pub returns-clause-text : goal.returns-clause-text
returns-clause-text c = hung_text

pub returns-clause-detached : goal.returns-clause-detached
returns-clause-detached c = hung_detached

pub returns-clause-placed : goal.returns-clause-placed
returns-clause-placed c = hung_placed

pub returns-clause-grown : goal.returns-clause-grown
returns-clause-grown c = hung_grown

pub returns-clause-instances : goal.returns-clause-instances
returns-clause-instances c = hung_instances

pub returns-clause-copied : goal.returns-clause-copied
returns-clause-copied c = hung_copied
