use Rattle.std.proofs.Common.{◌∙◌}
use Rattle.xf_store.proofs.CalledLaws.{called-none}
use Rattle.xf_actions.proofs.Flow.{same-runs, stopped}
use Rattle.xf_actions.proofs.Stores.{called-behind, called-still}
use Rattle.xf_engine.proofs.EventLaws.{set-settles, set-unnamed, set-unset, set-untaken, set-untried}
use Rattle.xf_engine.proofs.events.set.Goals as goal

pub returns-in_err-element-clause-done : goal.returns-in_err-element-clause-done
returns-in_err-element-clause-done g c answers h =
    stopped _ _ _ _ _ c.from_residual.ensures.1
    (set-unnamed answers (g.W.World.state c.args.world.now) c.args.id.now c.args.rows.now c.args.text.now _ _ c.in_err-element.ensures)

pub returns-in_err-element-clause-store : goal.returns-in_err-element-clause-store
returns-in_err-element-clause-store g c = called-none _ _

pub returns-in_err-node-clause-done : goal.returns-in_err-node-clause-done
returns-in_err-node-clause-done g c answers h =
    stopped _ _ _ _ _ c.from_residual-in_err-node.ensures.1
    (set-untried answers (g.W.World.state c.args.world.now) c.args.id.now c.args.rows.now c.args.text.now c.in_ok-element.element _ _ c.in_ok-element.ensures c.in_err-node.ensures)

pub returns-in_err-node-clause-store : goal.returns-in_err-node-clause-store
returns-in_err-node-clause-store g c = called-none _ _

pub returns-in_err-take_rows-clause-done : goal.returns-in_err-take_rows-clause-done
returns-in_err-take_rows-clause-done g c answers h =
    stopped _ _ _ _ _ c.from_residual-in_err-take_rows.ensures.1
    (set-untaken answers (g.W.World.state c.args.world.now) c.args.id.now c.args.rows.now c.args.text.now c.in_ok-element.element _ _ _ c.in_ok-element.ensures c.in_ok-node.ensures
    c.in_err-take_rows.ensures.done)

pub returns-in_err-take_rows-clause-store : goal.returns-in_err-take_rows-clause-store
returns-in_err-take_rows-clause-store g c = called-still _ _ _ c.in_err-take_rows.ensures.calls

pub returns-in_err-set_bound-clause-done : goal.returns-in_err-set_bound-clause-done
returns-in_err-set_bound-clause-done g c answers h =
    stopped _ _ _ _ _ c.from_residual-in_err-set_bound.ensures.1
    (set-unset answers (g.W.World.state c.args.world.now) (g.W.World.state c.take_rows.new.world) c.args.id.now c.args.rows.now c.args.text.now c.in_ok-element.element _ _ _ c.in_ok-element.ensures
    c.in_ok-node.ensures c.in_ok-take_rows.ensures.done c.in_err-set_bound.ensures.done)

pub returns-in_err-set_bound-clause-store : goal.returns-in_err-set_bound-clause-store
returns-in_err-set_bound-clause-store g c = called-still _ _ _ (c.in_err-set_bound.ensures.calls ∙ c.in_ok-take_rows.ensures.calls)

pub returns-clause-done : goal.returns-clause-done
returns-clause-done g c answers h =
    same-runs _ _ _ _ _
    (set-settles answers (g.W.World.state c.args.world.now) (g.W.World.state c.take_rows.new.world) (g.W.World.state c.set_bound.new.world) c.args.id.now c.args.rows.now c.args.text.now
    c.in_ok-element.element _ c.in_ok-element.ensures c.in_ok-node.ensures c.in_ok-take_rows.ensures.done c.in_ok-set_bound.ensures.done)
    (c.settle.ensures.done answers h)

pub returns-clause-store : goal.returns-clause-store
returns-clause-store g c = called-behind _ (c.in_ok-set_bound.ensures.calls ∙ c.in_ok-take_rows.ensures.calls) c.settle.ensures.store
