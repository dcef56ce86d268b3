use Rattle.xf_def_machine.specs.Acting.{act_at}
use Rattle.xf_actions.specs.Seen.{acting_of}
use Rattle.xf_actions.specs.Parts.{delete_in}
use Rattle.xf_actions.proofs.Flow.{makes-stopped}
use Rattle.xf_actions.proofs.Trees.{delete-stops}
use Rattle.xf_actions.proofs.delete.delete.Goals as goal

pub returns-in_err-context-clause-done : goal.returns-in_err-context-clause-done
returns-in_err-context-clause-done g c =
    makes-stopped _ _ _ _ _ _ c.from_residual.ensures.1 (delete-stops g.W.World.profile (acting_of c.args.fired.now c.args.acting.now) (delete_in (act_at (g.W.World.state c.args.world.now) c.args.acting.now.element)) (g.W.World.state c.args.world.now) _ _ c.in_err-context.ensures)
