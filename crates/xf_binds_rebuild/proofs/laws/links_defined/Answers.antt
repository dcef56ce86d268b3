use Rattle.xf_binds_rebuild.proofs.Told.{links_defined}
use Rattle.xf_binds_rebuild.proofs.laws.links_defined.Goals as goal

pub returns : goal.returns
returns c = links_defined
