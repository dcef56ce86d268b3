use Rattle.std.proofs.Common.{Ok}
use Rattle.xf_def_machine.specs.Behave.{revalidate}
use Rattle.xf_def_machine.specs.Update.{due_recalculation}
use Rattle.xf_actions.proofs.Flow.{refuses-then, stopped}
use Rattle.xf_actions.proofs.defaults.revalidate_now.Goals as goal

pub returns-in_err-recalculate_due-clause-done : goal.returns-in_err-recalculate_due-clause-done
returns-in_err-recalculate_due-clause-done g c =
    stopped _ _ _ _ _ c.from_residual.ensures.1
    (refuses-then _ _ (due_recalculation g.W.World.profile c.args.model (g.W.World.state c.args.world.now)) (λ t. Ok (revalidate g.W.World.profile c.args.model t)) c.in_err-recalculate_due.ensures.done)
