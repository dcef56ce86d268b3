use Rattle.xf_law_machine.proofs.FirstLemmas.BareTrees.{bare_gives as gives_law}
use Rattle.xf_law_machine.proofs.first.bare_gives.Goals as goal

pub returns : goal.returns
returns c = gives_law
