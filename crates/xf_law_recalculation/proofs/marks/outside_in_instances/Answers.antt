use Rattle.xf_law_recalculation.proofs.MarksLemmas.InstanceLaws.{instances_truth, instances_text}
use Rattle.xf_law_recalculation.proofs.marks.outside_in_instances.Goals as goal

pub returns-clause-truth : goal.returns-clause-truth
returns-clause-truth c = instances_truth

pub returns-clause-text : goal.returns-clause-text
returns-clause-text c = instances_text
