use Rattle.xf_engine_world.proofs.OutsideLaws.{begins}
use Rattle.xf_engine_world.proofs.machine.FormWorldMachine.begin_event.Goals as goal

pub returns-clause-now : goal.returns-clause-now
returns-clause-now c = begins c.args.self.now.work.now c.begin_event.new.self.now c.args.self.now.notes c.clear.new.self c.args.self.now.calls c.clear-2.new.self c.clear.ensures c.clear-2.ensures c.begin_event.ensures.now
