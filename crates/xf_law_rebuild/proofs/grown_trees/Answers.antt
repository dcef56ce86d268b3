use Rattle.xf_law_rebuild.proofs.Grown.{grown_again, grown_bare}
use Rattle.xf_law_rebuild.proofs.grown_trees.Goals as goal

pub returns-clause-bare : goal.returns-clause-bare
returns-clause-bare c = grown_bare

pub returns-clause-again : goal.returns-clause-again
returns-clause-again c = grown_again
