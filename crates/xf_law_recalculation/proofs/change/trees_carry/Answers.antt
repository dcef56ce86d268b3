use Rattle.xf_law_recalculation.proofs.ChangeLemmas.TreesCarry.{detached_carried, attached_carried, attached_again_carried, moved_carried, replaced_carried}
use Rattle.xf_law_recalculation.proofs.change.trees_carry.Goals as goal

pub returns-clause-detached : goal.returns-clause-detached
returns-clause-detached c = detached_carried

pub returns-clause-attached : goal.returns-clause-attached
returns-clause-attached c = attached_carried

pub returns-clause-attached_again : goal.returns-clause-attached_again
returns-clause-attached_again c = attached_again_carried

pub returns-clause-moved : goal.returns-clause-moved
returns-clause-moved c = moved_carried

pub returns-clause-replaced : goal.returns-clause-replaced
returns-clause-replaced c = replaced_carried
