use Rattle.std.proofs.Common.{get_or, refl, ◌∙◌, arith}
use Rattle.xf_actions.proofs.Flow.{stopped, same-refuses}
use Rattle.xf_actions.proofs.Resets.{put-next, put-stops}
use Rattle.xf_actions.proofs.reset.put_all_back.Goals as goal

pub returns-in_err-put_back-clause-done : goal.returns-in_err-put_back-clause-done
returns-in_err-put_back-clause-done g c =
    stopped _ _ _ _ _ c.from_residual.ensures.1
    (same-refuses _ _ _ _ c.loop-instance.invariant.rest
    (put-stops g.W.World.profile (g.W.World.state c.args.world.now).form c.args.instances.now c.loop-instance.instance-index (get_or c.args.instances.now c.loop-instance.instance-index 0) (g.W.World.state c.loop-instance.world) _ _ (omega arith) refl c.loop-instance.invariant.form c.in_err-put_back.ensures.done))

pub loop-instance-preserved : goal.loop-instance-preserved
loop-instance-preserved g c = record {
  rest =
      c.loop-instance.invariant.rest
      ∙ put-next g.W.World.profile (g.W.World.state c.args.world.now).form c.args.instances.now c.loop-instance.instance-index (get_or c.args.instances.now c.loop-instance.instance-index 0) (g.W.World.state c.loop-instance.world) (g.W.World.state c.put_back.new.self) (omega arith) refl c.loop-instance.invariant.form c.in_ok-put_back.ensures.done;
  kept = c.in_ok-put_back.ensures.kept ∙ c.loop-instance.invariant.kept;
  form = c.in_ok-put_back.ensures.form ∙ c.loop-instance.invariant.form;
  calls = c.in_ok-put_back.ensures.calls ∙ c.loop-instance.invariant.calls;
}
