use Rattle.xf_binds_rebuild.proofs.MachineLaw.{rebuilds_alike}
use Rattle.xf_binds_rebuild.proofs.laws.rebuilds_alike.Goals as goal

pub returns : goal.returns
returns c = rebuilds_alike
