use Rattle.xf_law_forests.proofs.RootLemmas.Stays.{roots_stay_text, roots_stay_detached, roots_stay_placed, roots_stay_grown, roots_stay_dropped}
use Rattle.xf_law_forests.proofs.root.roots_stay.Goals as goal

pub returns-clause-text : goal.returns-clause-text
returns-clause-text c = roots_stay_text

pub returns-clause-detached : goal.returns-clause-detached
returns-clause-detached c = roots_stay_detached

pub returns-clause-placed : goal.returns-clause-placed
returns-clause-placed c = roots_stay_placed

pub returns-clause-grown : goal.returns-clause-grown
returns-clause-grown c = roots_stay_grown

pub returns-clause-dropped : goal.returns-clause-dropped
returns-clause-dropped c = roots_stay_dropped
