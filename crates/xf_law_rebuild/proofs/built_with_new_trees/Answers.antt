use Rattle.xf_law_rebuild.proofs.Trees.{built_copied, built_planted, built_planted_bare}
use Rattle.xf_law_rebuild.proofs.built_with_new_trees.Goals as goal

pub returns-clause-planted : goal.returns-clause-planted
returns-clause-planted c = built_planted

pub returns-clause-planted_bare : goal.returns-clause-planted_bare
returns-clause-planted_bare c = built_planted_bare

pub returns-clause-copied : goal.returns-clause-copied
returns-clause-copied c = built_copied
