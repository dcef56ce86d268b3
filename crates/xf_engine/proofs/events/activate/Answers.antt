use Rattle.xf_store.proofs.CalledLaws.{called-none}
use Rattle.xf_actions.proofs.Flow.{same-runs, stopped}
use Rattle.xf_actions.proofs.Stores.{called-behind, called-both, called-still, covers-before}
use Rattle.xf_engine.proofs.EventLaws.{activate-tells, activate-unnamed, activate-unsettled, activate-untaken, activate-untried}
use Rattle.xf_engine.proofs.events.activate.Goals as goal

pub returns-in_err-element-clause-done : goal.returns-in_err-element-clause-done
returns-in_err-element-clause-done g c answers h =
    stopped _ _ _ _ _ c.from_residual.ensures.1 (activate-unnamed answers (g.W.World.state c.args.world.now) c.args.id.now c.args.rows.now _ _ c.in_err-element.ensures)

pub returns-in_err-element-clause-store : goal.returns-in_err-element-clause-store
returns-in_err-element-clause-store g c = called-none _ _

pub returns-in_err-event-clause-done : goal.returns-in_err-event-clause-done
returns-in_err-event-clause-done g c answers h =
    stopped _ _ _ _ _ c.from_residual-in_err-event.ensures.1
    (activate-untried answers (g.W.World.state c.args.world.now) c.args.id.now c.args.rows.now c.in_ok-element.element _ _ c.in_ok-element.ensures c.in_err-event.ensures)

pub returns-in_err-event-clause-store : goal.returns-in_err-event-clause-store
returns-in_err-event-clause-store g c = called-none _ _

pub returns-in_err-take_rows-clause-done : goal.returns-in_err-take_rows-clause-done
returns-in_err-take_rows-clause-done g c answers h =
    stopped _ _ _ _ _ c.from_residual-in_err-take_rows.ensures.1
    (activate-untaken answers (g.W.World.state c.args.world.now) c.args.id.now c.args.rows.now c.in_ok-element.element _ _ _ c.in_ok-element.ensures c.in_ok-event.ensures
    c.in_err-take_rows.ensures.done)

pub returns-in_err-take_rows-clause-store : goal.returns-in_err-take_rows-clause-store
returns-in_err-take_rows-clause-store g c = called-still _ _ _ c.in_err-take_rows.ensures.calls

pub returns-in_err-settle-clause-done : goal.returns-in_err-settle-clause-done
returns-in_err-settle-clause-done g c answers h =
    stopped _ _ _ _ _ c.from_residual-in_err-settle.ensures.1
    (activate-unsettled answers (g.W.World.state c.args.world.now) (g.W.World.state c.take_rows.new.world) c.args.id.now c.args.rows.now c.in_ok-element.element _ _ _ c.in_ok-element.ensures
    c.in_ok-event.ensures c.in_ok-take_rows.ensures.done (c.in_err-settle.ensures.done answers h))

pub returns-in_err-settle-clause-store : goal.returns-in_err-settle-clause-store
returns-in_err-settle-clause-store g c = called-behind _ c.in_ok-take_rows.ensures.calls c.in_err-settle.ensures.store

pub returns-clause-done : goal.returns-clause-done
returns-clause-done g c answers h =
    same-runs _ _ _ _ _
    (activate-tells answers (g.W.World.state c.args.world.now) (g.W.World.state c.take_rows.new.world) (g.W.World.state c.settle.new.world) c.args.id.now c.args.rows.now c.in_ok-element.element _
    c.in_ok-element.ensures c.in_ok-event.ensures c.in_ok-take_rows.ensures.done
    (c.in_ok-settle.ensures.done answers (covers-before _ _ c.tell.ensures.store.grown answers h)))
    (c.tell.ensures.done answers h)

pub returns-clause-store : goal.returns-clause-store
returns-clause-store g c = called-both (called-behind _ c.in_ok-take_rows.ensures.calls c.in_ok-settle.ensures.store) c.tell.ensures.store
