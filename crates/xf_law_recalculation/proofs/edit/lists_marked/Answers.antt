use Rattle.xf_law_recalculation.proofs.EditLemmas.CutLaws.{tree_cut, tree_planted}
use Rattle.xf_law_recalculation.proofs.EditLemmas.ListEdits.{list_marked_law}
use Rattle.xf_law_recalculation.proofs.edit.lists_marked.Goals as goal

pub returns-clause-marked : goal.returns-clause-marked
returns-clause-marked c = list_marked_law

pub returns-clause-cut : goal.returns-clause-cut
returns-clause-cut c = tree_cut

pub returns-clause-planted : goal.returns-clause-planted
returns-clause-planted c = tree_planted
