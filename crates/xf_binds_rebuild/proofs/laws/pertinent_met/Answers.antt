use Rattle.xf_binds_rebuild.proofs.MetByGraph.{pertinent_met}
use Rattle.xf_binds_rebuild.proofs.laws.pertinent_met.Goals as goal

pub returns : goal.returns
returns c = pertinent_met
