use Rattle.xf_law_recalculation.proofs.SinceLemmas.Anew.{alone_stands, entries_stand}
use Rattle.xf_law_recalculation.proofs.since.none_detached.Goals as goal

pub returns-clause-stands : goal.returns-clause-stands
returns-clause-stands c = alone_stands

pub returns-clause-entries : goal.returns-clause-entries
returns-clause-entries c = entries_stand
