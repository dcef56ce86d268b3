use Rattle.xf_store.proofs.CalledLaws.{called-none}
use Rattle.xf_actions.proofs.Flow.{refuses-any, same-runs, stopped}
use Rattle.xf_engine.proofs.EventLaws.{told-as}
use Rattle.xf_engine.proofs.start.tell_model.Goals as goal

pub returns-in_err-event-clause-done : goal.returns-in_err-event-clause-done
returns-in_err-event-clause-done g c answers h = stopped _ _ _ _ _ c.from_residual.ensures.1 (refuses-any _ _ _ _ c.in_err-event.ensures)

pub returns-in_err-event-clause-store : goal.returns-in_err-event-clause-store
returns-in_err-event-clause-store g c = called-none _ _

pub returns-clause-done : goal.returns-clause-done
returns-clause-done g c answers h =
    same-runs _ _ _ _ _ (told-as answers _ _ (g.W.World.state c.args.world.now) (rw c.model_element.ensures at c.in_ok-event.ensures)) (c.tell.ensures.done answers h)
