use Rattle.xf_engine_world.proofs.OutsideLaws.{again}
use Rattle.xf_engine_world.proofs.machine.FormWorldMachine.roll_back.Goals as goal

pub returns-clause-now : goal.returns-clause-now
returns-clause-now c = again c.roll_back.new.self.now c.args.self.now.work.kept.standing c.clear.new.self c.clear-2.new.self c.clear.ensures c.clear-2.ensures c.roll_back.ensures.now
