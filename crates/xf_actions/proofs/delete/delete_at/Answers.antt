use Rattle.xf_def_machine.specs.Acting.{act_at}
use Rattle.xf_actions.specs.Seen.{acting_of, focus_of}
use Rattle.xf_actions.specs.Parts.{delete_in}
use Rattle.xf_actions.proofs.Flow.{makes-stopped, refuses-any}
use Rattle.xf_actions.proofs.Trees.{delete_at-stops, delete_at-unread}
use Rattle.xf_actions.proofs.delete.delete_at.Goals as goal

pub returns-in_err-set-clause-done : goal.returns-in_err-set-clause-done
returns-in_err-set-clause-done g c =
    makes-stopped _ _ _ _ _ _ c.from_residual.ensures.1 (delete_at-stops g.W.World.profile (acting_of c.args.fired.now c.args.acting.now) (delete_in (act_at (g.W.World.state c.args.world.now) c.args.acting.now.element)) (focus_of c.args.focus.now) (g.W.World.state c.args.world.now) _ _ c.in_err-set.ensures)

pub returns-in_err-at-clause-done : goal.returns-in_err-at-clause-done
returns-in_err-at-clause-done g c =
    makes-stopped _ _ _ _ _ _ c.from_residual-in_err-at.ensures.1
    (delete_at-unread g.W.World.profile (acting_of c.args.fired.now c.args.acting.now) (delete_in (act_at (g.W.World.state c.args.world.now) c.args.acting.now.element)) (focus_of c.args.focus.now) (g.W.World.state c.args.world.now) _ _ _ c.in_ok-set.ensures c.in_err-at.ensures)

pub returns-in_err-nodes-clause-done : goal.returns-in_err-nodes-clause-done
returns-in_err-nodes-clause-done g c =
    makes-stopped _ _ _ _ _ _ c.from_residual-in_err-nodes.ensures.1 (refuses-any _ _ _ _ c.in_err-nodes.ensures)
