use Rattle.xf_law_machine.proofs.FirstLemmas.FirstLaws.{first_gives as first_law}
use Rattle.xf_law_machine.proofs.first.first_gives.Goals as goal

pub returns : goal.returns
returns c = first_law
