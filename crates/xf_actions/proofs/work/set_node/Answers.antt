use Rattle.xf_def_machine.specs.Acting.{act_at}
use Rattle.xf_actions.specs.Seen.{acting_of}
use Rattle.xf_actions.specs.Parts.{value_in}
use Rattle.xf_actions.proofs.Flow.{stopped}
use Rattle.xf_actions.proofs.Doings.{set_open-stops, set_open-unread}
use Rattle.xf_actions.proofs.work.set_node.Goals as goal

pub returns-in_err-may_set-clause-done : goal.returns-in_err-may_set-clause-done
returns-in_err-may_set-clause-done g c = stopped _ _ _ _ _ c.from_residual.ensures.1 (set_open-stops g.W.World.profile (acting_of c.args.fired.now c.args.acting.now) (value_in (act_at (g.W.World.state c.args.world.now) c.args.acting.now.element)) c.args.node.number (g.W.World.state c.args.world.now) _ _ c.in_err-may_set.ensures)

pub returns-in_err-text-clause-done : goal.returns-in_err-text-clause-done
returns-in_err-text-clause-done g c =
    stopped _ _ _ _ _ c.from_residual-in_err-text.ensures.1 (set_open-unread g.W.World.profile (acting_of c.args.fired.now c.args.acting.now) (value_in (act_at (g.W.World.state c.args.world.now) c.args.acting.now.element)) c.args.node.number (g.W.World.state c.args.world.now) _ _ c.in_ok-may_set.ensures c.in_err-text.ensures)
