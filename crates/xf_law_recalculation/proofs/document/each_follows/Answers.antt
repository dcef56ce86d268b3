use Rattle.xf_law_recalculation.proofs.DocumentLemmas.Each.{first_follows, text_follows, detached_follows, placed_follows, replaced_follows, elsewhere_follows}
use Rattle.xf_law_recalculation.proofs.document.each_follows.Goals as goal

pub returns-clause-first : goal.returns-clause-first
returns-clause-first c = first_follows

pub returns-clause-text : goal.returns-clause-text
returns-clause-text c = text_follows

pub returns-clause-detached : goal.returns-clause-detached
returns-clause-detached c = detached_follows

pub returns-clause-placed : goal.returns-clause-placed
returns-clause-placed c = placed_follows

pub returns-clause-replaced : goal.returns-clause-replaced
returns-clause-replaced c = replaced_follows

pub returns-clause-elsewhere : goal.returns-clause-elsewhere
returns-clause-elsewhere c = elsewhere_follows
