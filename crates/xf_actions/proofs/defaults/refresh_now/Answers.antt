use Rattle.xf_def_machine.specs.Update.{due_revalidation, refresh_cleared}
use Rattle.xf_actions.specs.Told.{refreshed}
use Rattle.xf_actions.proofs.Flow.{refuses-then, makes-stopped}
use Rattle.xf_actions.proofs.defaults.refresh_now.Goals as goal

pub returns-in_err-revalidate_due-clause-done : goal.returns-in_err-revalidate_due-clause-done
returns-in_err-revalidate_due-clause-done g c =
    makes-stopped _ _ _ _ _ _ c.from_residual.ensures.1
    (refuses-then _ _ (due_revalidation g.W.World.profile c.args.model (g.W.World.state c.args.world.now)) (refreshed g.W.World.profile (refresh_cleared c.args.model)) c.in_err-revalidate_due.ensures.done)
