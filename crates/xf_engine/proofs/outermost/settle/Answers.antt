use Rattle.std.proofs.Common.{subst, false}
use Rattle.xf_base.specs.Limits.{dispatch_limit}
use Rattle.xf_def_machine.specs.Dispatch.{dispatch}
use Rattle.xf_def_machine.specs.Profile.{Profile}
use Rattle.xf_def_machine.specs.Update.{update}
use Rattle.xf_actions.specs.Fault.{means}
use Rattle.xf_actions.specs.Performs.{RunsOver}
use Rattle.xf_engine.proofs.outermost.settle.Goals as goal

pub returns-clause-done : goal.returns-clause-done
returns-clause-done g c =
    subst (λ (p : Profile). RunsOver means (g.W.World.state c.update.new.world) c.update.result (λ answers. update p (dispatch p answers dispatch_limit false) (g.W.World.state c.args.world.now)))
    g.met.W.Machine.is_given c.update.ensures.done
