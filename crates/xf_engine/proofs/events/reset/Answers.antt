use Rattle.xf_store.proofs.CalledLaws.{called-none}
use Rattle.xf_actions.proofs.Flow.{same-runs, stopped}
use Rattle.xf_engine.proofs.EventLaws.{reset-tells, reset-unnamed}
use Rattle.xf_engine.proofs.events.reset.Goals as goal

pub returns-in_err-element-clause-done : goal.returns-in_err-element-clause-done
returns-in_err-element-clause-done g c answers h =
    stopped _ _ _ _ _ c.from_residual.ensures.1 (reset-unnamed answers (g.W.World.state c.args.world.now) c.args.id.now _ _ c.in_err-element.ensures)

pub returns-in_err-element-clause-store : goal.returns-in_err-element-clause-store
returns-in_err-element-clause-store g c = called-none _ _

pub returns-clause-done : goal.returns-clause-done
returns-clause-done g c answers h =
    same-runs _ _ _ _ _ (reset-tells answers (g.W.World.state c.args.world.now) c.args.id.now c.in_ok-element.element c.in_ok-element.ensures)
    (c.tell_element.ensures.done answers h)
