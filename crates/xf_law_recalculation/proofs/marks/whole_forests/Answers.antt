use Rattle.xf_law_recalculation.proofs.MarksLemmas.InstanceLaws.{whole_forests}
use Rattle.xf_law_recalculation.proofs.marks.whole_forests.Goals as goal

pub returns : goal.returns
returns c = whole_forests
