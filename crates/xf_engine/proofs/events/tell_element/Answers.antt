use Rattle.xf_actions.proofs.Flow.{same-runs}
use Rattle.xf_engine.proofs.EventLaws.{told-in}
use Rattle.xf_engine.proofs.events.tell_element.Goals as goal

pub returns-in_ok-event-in-Some-clause-done : goal.returns-in_ok-event-in-Some-clause-done
returns-in_ok-event-in-Some-clause-done g c answers h =
    same-runs _ _ _ _ _
    (told-in answers (g.W.World.state c.args.world.now) c.args.name.now c.args.element c.in_ok-rows.field-0 c.in-Some.rows _ c.in_ok-rows.ensures c.in-Some.is c.in_ok-event-in-Some.ensures)
    (c.tell.ensures.done answers h)
