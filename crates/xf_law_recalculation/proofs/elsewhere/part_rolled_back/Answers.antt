use Rattle.xf_law_recalculation.proofs.ElsewhereLemmas.Stays.{part_rolled_back as law}
use Rattle.xf_law_recalculation.proofs.elsewhere.part_rolled_back.Goals as goal

pub returns : goal.returns
returns c = law
