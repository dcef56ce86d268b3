use Rattle.xf_law_recalculation.proofs.EditLemmas.ElsewhereLaws.{text_elsewhere, tree_behind, detached_elsewhere, attached_elsewhere}
use Rattle.xf_law_recalculation.proofs.edit.elsewhere.Goals as goal

pub returns-clause-text : goal.returns-clause-text
returns-clause-text c = text_elsewhere

pub returns-clause-behind : goal.returns-clause-behind
returns-clause-behind c = tree_behind

pub returns-clause-detached : goal.returns-clause-detached
returns-clause-detached c = detached_elsewhere

pub returns-clause-attached : goal.returns-clause-attached
returns-clause-attached c = attached_elsewhere
