use Rattle.std.proofs.Common.{◌∙◌}
use Rattle.std.proofs.lemmas.Result.{IfOk-weaker}
use Rattle.xf_eval.proofs.Lives.{live-is, live-in_order}
use Rattle.xf_eval_dependencies.proofs.Wholes.{reads-are}
use Rattle.xf_eval_dependencies.proofs.whole.reads.Goals as goal

pub returns-clause-value : goal.returns-clause-value
returns-clause-value g c =
    let same = reads-are c.args.forest.now.forest c.is_sound.ensures (g.A.Around.given c.args.around.now) c.args.expr.now c.args.context.now c.in_ok-told.told c.in_ok-told.ensures.tells c.in_ok-told.ensures.stands in
    IfOk-weaker c.in_order.result _ _ (λ nodes h. h ∙ same) c.in_order.ensures

pub returns-clause-live : goal.returns-clause-live
returns-clause-live g c =
    let nodes = c.args.forest.now.forest.nodes in
    IfOk-weaker c.in_order.result _ _ (λ found h. live-is nodes h (live-in_order c.in_ok-told.told.reads nodes)) c.in_order.ensures
