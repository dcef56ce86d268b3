use Rattle.xf_law_recalculation.proofs.ChangeLemmas.OthersCarry.{elsewhere_carried, text_elsewhere_carried, behind_carried, detached_elsewhere_carried, attached_elsewhere_carried, dropped_carried}
use Rattle.xf_law_recalculation.proofs.change.elsewhere_carries.Goals as goal

pub returns-clause-elsewhere : goal.returns-clause-elsewhere
returns-clause-elsewhere c = elsewhere_carried

pub returns-clause-text : goal.returns-clause-text
returns-clause-text c = text_elsewhere_carried

pub returns-clause-behind : goal.returns-clause-behind
returns-clause-behind c = behind_carried

pub returns-clause-detached : goal.returns-clause-detached
returns-clause-detached c = detached_elsewhere_carried

pub returns-clause-attached : goal.returns-clause-attached
returns-clause-attached c = attached_elsewhere_carried

pub returns-clause-dropped : goal.returns-clause-dropped
returns-clause-dropped c = dropped_carried
