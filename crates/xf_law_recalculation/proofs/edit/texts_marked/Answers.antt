use Rattle.xf_law_recalculation.proofs.EditLemmas.EditLaws.{same_at_first}
use Rattle.xf_law_recalculation.proofs.EditLemmas.TextEdits.{text_marked_law}
use Rattle.xf_law_recalculation.proofs.EditLemmas.TextSetLaws.{text_set}
use Rattle.xf_law_recalculation.proofs.EditLemmas.RenumberedNodes.{same_renumbered}
use Rattle.xf_law_recalculation.proofs.edit.texts_marked.Goals as goal

pub returns-clause-first : goal.returns-clause-first
returns-clause-first c = same_at_first

pub returns-clause-renumbered : goal.returns-clause-renumbered
returns-clause-renumbered c = same_renumbered

pub returns-clause-marked : goal.returns-clause-marked
returns-clause-marked c = text_marked_law

pub returns-clause-set : goal.returns-clause-set
returns-clause-set c = text_set
