use Rattle.xf_law_forests.proofs.RootLemmas.Stays.{roots_made as made_law, roots_rolled_back}
use Rattle.xf_law_forests.proofs.root.roots_made.Goals as goal

pub returns-clause-made : goal.returns-clause-made
returns-clause-made c = made_law

pub returns-clause-rolled_back : goal.returns-clause-rolled_back
returns-clause-rolled_back c = roots_rolled_back
