use Rattle.std.proofs.Common.{subst, true}
use Rattle.xf_base.specs.Limits.{dispatch_limit}
use Rattle.xf_def_machine.specs.Dispatch.{dispatch}
use Rattle.xf_def_machine.specs.Profile.{Profile}
use Rattle.xf_actions.specs.Fault.{means}
use Rattle.xf_actions.specs.Performs.{RunsOver}
use Rattle.xf_actions.specs.Seen.{fired_of}
use Rattle.xf_engine.proofs.outermost.tell.Goals as goal

pub returns-clause-done : goal.returns-clause-done
returns-clause-done g c =
    subst (λ (p : Profile). RunsOver means (g.W.World.state c.dispatch.new.world) c.dispatch.result (λ answers. dispatch p answers dispatch_limit true (fired_of c.args.fired.now) (g.W.World.state c.args.world.now)))
    g.met.W.Machine.is_given c.dispatch.ensures.done
