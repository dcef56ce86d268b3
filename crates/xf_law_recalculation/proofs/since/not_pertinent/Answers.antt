use Rattle.xf_law_recalculation.proofs.SinceLemmas.PassedText.{pertinent_text}
use Rattle.xf_law_recalculation.proofs.SinceLemmas.PassedWritten.{pertinent_written, pertinent_truth, passed_turn}
use Rattle.xf_law_recalculation.proofs.since.not_pertinent.Goals as goal

pub returns-clause-text : goal.returns-clause-text
returns-clause-text c = pertinent_text

pub returns-clause-written : goal.returns-clause-written
returns-clause-written c = pertinent_written

pub returns-clause-truth : goal.returns-clause-truth
returns-clause-truth c = pertinent_truth

pub returns-clause-turn : goal.returns-clause-turn
returns-clause-turn c = passed_turn
