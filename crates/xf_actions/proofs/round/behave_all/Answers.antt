use Rattle.std.proofs.Common.{◌∙◌, arith}
use Rattle.xf_def_machine.specs.Update.{due_revalidation}
use Rattle.xf_actions.proofs.Flow.{stopped, same-refuses}
use Rattle.xf_actions.proofs.Rounds.{counted-step, counted-stop}
use Rattle.xf_actions.proofs.round.behave_all.Goals as goal

pub loop-model-preserved : goal.loop-model-preserved
loop-model-preserved g c = record {
  rest =
      c.loop-model.invariant.rest
      ∙ counted-step (due_revalidation g.W.World.profile) _ _ _ _ (g.W.World.state c.loop-model.world) (g.W.World.state c.revalidate_due.new.world)
      (omega arith) (omega arith) (omega arith) c.in_ok-revalidate_due.ensures.done;
  kept = c.in_ok-revalidate_due.ensures.kept ∙ c.loop-model.invariant.kept;
  form = c.in_ok-revalidate_due.ensures.form ∙ c.loop-model.invariant.form;
  calls = c.in_ok-revalidate_due.ensures.calls ∙ c.loop-model.invariant.calls;
}

pub returns-in_err-revalidate_due-clause-done : goal.returns-in_err-revalidate_due-clause-done
returns-in_err-revalidate_due-clause-done g c =
    stopped _ _ _ _ _ c.from_residual.ensures.1
    (same-refuses _ _ _ _ c.loop-model.invariant.rest
    (counted-stop (due_revalidation g.W.World.profile) _ _ (g.W.World.state c.loop-model.world) _ _ (omega arith) c.in_err-revalidate_due.ensures.done))
