use Rattle.xf_engine_world.proofs.OutsideLaws.{plain}
use Rattle.xf_engine_world.proofs.form_world.FormWorld.over_work.Goals as goal

pub returns : goal.returns
returns c = plain c.args.work.now c.new.result c.new-2.result c.new.ensures c.new-2.ensures
