use Rattle.xf_law_machine.proofs.BehavioursLemmas.FailedLaws.{failed_keeps}
use Rattle.xf_law_machine.proofs.behaviours.failed_submission_keeps_data.Goals as goal

pub returns : goal.returns
returns c = failed_keeps
