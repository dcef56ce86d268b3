use Rattle.xf_law_recalculation.proofs.ChangeLemmas.RootPlaces.{root_keeps_place_text, root_keeps_place_detached, root_keeps_place_placed}
use Rattle.xf_law_recalculation.proofs.change.roots_keep_places.Goals as goal

pub returns-clause-text : goal.returns-clause-text
returns-clause-text c = root_keeps_place_text

pub returns-clause-detached : goal.returns-clause-detached
returns-clause-detached c = root_keeps_place_detached

pub returns-clause-placed : goal.returns-clause-placed
returns-clause-placed c = root_keeps_place_placed
