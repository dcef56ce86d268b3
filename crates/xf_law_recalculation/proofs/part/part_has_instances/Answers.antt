use Rattle.xf_law_recalculation.proofs.PartLemmas.OfPart.{part_has_instances as law}
use Rattle.xf_law_recalculation.proofs.part.part_has_instances.Goals as goal

pub returns : goal.returns
returns c = law
