use Rattle.xf_law_forests.proofs.RootLemmas.Stays.{root_added as added_law}
use Rattle.xf_law_forests.proofs.root.root_added.Goals as goal

pub returns : goal.returns
returns c = added_law
