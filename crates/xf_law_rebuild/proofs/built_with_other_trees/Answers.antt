use Rattle.xf_law_rebuild.proofs.Holders.{held_with_parent}
use Rattle.xf_law_rebuild.proofs.Trees.{built_attached, built_detached, built_dropped}
use Rattle.xf_law_rebuild.proofs.built_with_other_trees.Goals as goal

pub returns-clause-detached : goal.returns-clause-detached
returns-clause-detached c = built_detached

pub returns-clause-attached : goal.returns-clause-attached
returns-clause-attached c = built_attached

pub returns-clause-dropped : goal.returns-clause-dropped
returns-clause-dropped c = built_dropped

pub returns-clause-held : goal.returns-clause-held
returns-clause-held c = held_with_parent
