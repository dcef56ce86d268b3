use Rattle.xf_law_recalculation.proofs.ChangeLemmas.RootsStay.{root_stands, root_stays_text, root_stays_detached, root_stays_placed}
use Rattle.xf_law_recalculation.proofs.change.roots_stay.Goals as goal

pub returns-clause-stands : goal.returns-clause-stands
returns-clause-stands c = root_stands

pub returns-clause-text : goal.returns-clause-text
returns-clause-text c = root_stays_text

pub returns-clause-detached : goal.returns-clause-detached
returns-clause-detached c = root_stays_detached

pub returns-clause-placed : goal.returns-clause-placed
returns-clause-placed c = root_stays_placed
