use Rattle.xf_def_machine.specs.Update.{due_rebuild}
use Rattle.xf_actions.proofs.Flow.{refuses-then, stopped}
use Rattle.xf_actions.proofs.round.recalculate_due.Goals as goal

pub returns-in_err-rebuild_due-clause-done : goal.returns-in_err-rebuild_due-clause-done
returns-in_err-rebuild_due-clause-done g c =
    stopped _ _ _ _ _ c.from_residual.ensures.1
    (refuses-then _ _ (due_rebuild g.W.World.profile c.args.model (g.W.World.state c.args.world.now)) _ c.in_err-rebuild_due.ensures.done)
