use Rattle.xf_store.proofs.CalledLaws.{called-none}
use Rattle.xf_actions.proofs.Flow.{same-runs, stopped}
use Rattle.xf_actions.proofs.Stores.{called-behind, called-still}
use Rattle.xf_engine.proofs.EventLaws.{index-settles, index-unnamed, index-unset, index-untried}
use Rattle.xf_engine.proofs.RowLaws.{around-as}
use Rattle.xf_engine.proofs.events.index.Goals as goal

pub returns-in_err-repeat-clause-done : goal.returns-in_err-repeat-clause-done
returns-in_err-repeat-clause-done g c answers h =
    stopped _ _ _ _ _ c.from_residual.ensures.1 (index-unnamed answers (g.W.World.state c.args.world.now) c.args.id.now c.args.number _ _ c.in_err-repeat.ensures)

pub returns-in_err-repeat-clause-store : goal.returns-in_err-repeat-clause-store
returns-in_err-repeat-clause-store g c = called-none _ _

pub returns-in_err-try_index-clause-done : goal.returns-in_err-try_index-clause-done
returns-in_err-try_index-clause-done g c answers h =
    stopped _ _ _ _ _ c.from_residual-in_err-try_index.ensures.1
    (index-untried answers (g.W.World.state c.args.world.now) c.args.id.now c.args.number c.in_ok-repeat.repeat _ _ c.in_ok-repeat.ensures c.in_err-try_index.ensures)

pub returns-in_err-try_index-clause-store : goal.returns-in_err-try_index-clause-store
returns-in_err-try_index-clause-store g c = called-none _ _

pub returns-in_err-set_index-clause-done : goal.returns-in_err-set_index-clause-done
returns-in_err-set_index-clause-done g c answers h =
    stopped _ _ _ _ _ c.from_residual-in_err-set_index.ensures.1
    (index-unset answers (g.W.World.state c.args.world.now) c.args.id.now c.args.number c.in_ok-repeat.repeat _ _ _ c.in_ok-repeat.ensures c.in_ok-try_index.ensures
    (around-as c.form.result.now (g.W.World.state c.args.world.now) c.in_ok-repeat.repeat _ c.form.ensures c.model_at-model.ensures) c.in_err-set_index.ensures.done)

pub returns-in_err-set_index-clause-store : goal.returns-in_err-set_index-clause-store
returns-in_err-set_index-clause-store g c = called-still _ _ _ c.in_err-set_index.ensures.calls

pub returns-clause-done : goal.returns-clause-done
returns-clause-done g c answers h =
    same-runs _ _ _ _ _
    (index-settles answers (g.W.World.state c.args.world.now) (g.W.World.state c.set_index.new.world) c.args.id.now c.args.number c.in_ok-repeat.repeat _ c.in_ok-repeat.ensures
    c.in_ok-try_index.ensures (around-as c.form.result.now (g.W.World.state c.args.world.now) c.in_ok-repeat.repeat _ c.form.ensures c.model_at-model.ensures) c.in_ok-set_index.ensures.done)
    (c.settle.ensures.done answers h)

pub returns-clause-store : goal.returns-clause-store
returns-clause-store g c = called-behind _ c.in_ok-set_index.ensures.calls c.settle.ensures.store
