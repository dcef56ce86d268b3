use Rattle.xf_law_sessions.proofs.ShownLemmas.Reindexed.{brought_placed, started_placed, index_laws}
use Rattle.xf_law_sessions.proofs.shown.indexes_are_placed.Goals as goal

pub returns-clause-brought : goal.returns-clause-brought
returns-clause-brought c = brought_placed

pub returns-clause-started : goal.returns-clause-started
returns-clause-started c = started_placed

pub returns-clause-laws : goal.returns-clause-laws
returns-clause-laws c = index_laws
