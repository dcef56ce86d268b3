use Rattle.xf_def_machine.specs.Update.{due_recalculation}
use Rattle.xf_actions.proofs.Flow.{refuses-then, stopped}
use Rattle.xf_def_form.specs.Formed.{profile}
use Rattle.xf_engine_world.specs.State.{state_of}
use Rattle.xf_engine_world.proofs.due.revalidate_due.Goals as goal

pub returns-in_err-recalculate_due-clause-done : goal.returns-in_err-recalculate_due-clause-done
returns-in_err-recalculate_due-clause-done c =
    stopped _ _ _ _ _ c.from_residual.ensures.1
    (refuses-then _ _ (due_recalculation profile c.args.model (state_of c.args.world.now)) _ c.in_err-recalculate_due.ensures.done)
