use Rattle.xf_law_recalculation.proofs.EditLemmas.FrontEdits.{text_set_in_instances, tree_detached}
use Rattle.xf_law_recalculation.proofs.EditLemmas.Attached.{tree_attached}
use Rattle.xf_law_recalculation.proofs.EditLemmas.TextAgain.{text_again}
use Rattle.xf_law_recalculation.proofs.EditLemmas.StandsThere.{stands_there}
use Rattle.xf_law_recalculation.proofs.edit.instances_marked.Goals as goal

pub returns-clause-text : goal.returns-clause-text
returns-clause-text c = text_set_in_instances

pub returns-clause-again : goal.returns-clause-again
returns-clause-again c = text_again

pub returns-clause-stands : goal.returns-clause-stands
returns-clause-stands c = stands_there

pub returns-clause-detached : goal.returns-clause-detached
returns-clause-detached c = tree_detached

pub returns-clause-attached : goal.returns-clause-attached
returns-clause-attached c = tree_attached
