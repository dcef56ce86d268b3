use Rattle.std.proofs.Common.{◌<◌, length, ◌∙◌, sym, arith}
use Rattle.std.proofs.lemmas.Result.{IfOk-weaker}
use Rattle.xf_def_forest.specs.Visit.{visits}
use Rattle.xf_eval.proofs.Erased.{in_order-erased}
use Rattle.xf_eval.proofs.Lives.{live-in_order, live-is}
use Rattle.xf_eval.proofs.Ordered.{few-in_order}
use Rattle.xf_eval.proofs.order.ordered.Goals as goal

pub returns-then-len-lt2-clause-value : goal.returns-then-len-lt2-clause-value
returns-then-len-lt2-clause-value c =
    let few : length c.args.nodes < 2 = omega (arith, c.len.ensures, c.if-len-lt2.true) in
    sym (few-in_order c.args.nodes c.args.forest.now c.are_trees.ensures c.requires.live few)

pub returns-clause-value : goal.returns-clause-value
returns-clause-value c =
    IfOk-weaker c.put_in_order.result _ _ (λ found h. h ∙ sym (in_order-erased (visits c.args.forest.now.forest.nodes) c.args.nodes)) c.put_in_order.ensures

pub returns-clause-live : goal.returns-clause-live
returns-clause-live c =
    let nodes = c.args.forest.now.forest.nodes in
    IfOk-weaker c.put_in_order.result _ _ (λ found h. live-is nodes h (live-in_order c.args.nodes nodes)) c.put_in_order.ensures
