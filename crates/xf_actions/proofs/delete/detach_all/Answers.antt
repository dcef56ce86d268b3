use Rattle.std.proofs.Common.{◌∙◌, arith}
use Rattle.xf_actions.proofs.Flow.{stopped, same-refuses}
use Rattle.xf_actions.proofs.Trees.{cut-step, cut-stop}
use Rattle.xf_actions.proofs.delete.detach_all.Goals as goal

pub returns-in_err-detach-clause-done : goal.returns-in_err-detach-clause-done
returns-in_err-detach-clause-done g c =
    stopped _ _ _ _ _ c.from_residual.ensures.1
    (same-refuses _ _ _ _ c.loop-node.invariant.rest (cut-stop (λ n. n.number) c.args.nodes.now c.loop-node.node-index _ (g.W.World.state c.loop-node.world) _ _ (omega arith) c.in_err-detach.ensures.done))

pub loop-node-preserved : goal.loop-node-preserved
loop-node-preserved g c = record {
  rest = c.loop-node.invariant.rest ∙ cut-step (λ n. n.number) c.args.nodes.now c.loop-node.node-index _ (g.W.World.state c.loop-node.world) (g.W.World.state c.detach.new.self) (omega arith) c.in_ok-detach.ensures.done;
  kept = c.in_ok-detach.ensures.kept ∙ c.loop-node.invariant.kept;
  form = c.in_ok-detach.ensures.form ∙ c.loop-node.invariant.form;
  calls = c.in_ok-detach.ensures.calls ∙ c.loop-node.invariant.calls;
}
