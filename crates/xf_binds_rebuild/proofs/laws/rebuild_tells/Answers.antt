use Rattle.xf_binds_rebuild.proofs.Told.{rebuild_tells}
use Rattle.xf_binds_rebuild.proofs.laws.rebuild_tells.Goals as goal

pub returns : goal.returns
returns c = rebuild_tells
