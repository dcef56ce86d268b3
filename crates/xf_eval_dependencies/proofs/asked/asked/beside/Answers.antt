use Rattle.std.proofs.Common.{sym, subst}
use Rattle.std.proofs.lemmas.Result.{IfOk-weaker}
use Rattle.xf_def_xpath.specs.Asked.{with_read}
use Rattle.xf_def_xpath.specs.AskedCalls.{beside}
use Rattle.xf_eval_dependencies.specs.Asked.Tells.{Tells}
use Rattle.xf_eval_dependencies.proofs.asked.asked.beside.Goals as goal

pub returns-then-is_truth-clause-tells : goal.returns-then-is_truth-clause-tells
returns-then-is_truth-clause-tells c =
    let nodes = c.args.forest.now.forest.nodes in
    λ s e a t. subst (λ b. Tells nodes c.args.asked (beside s b a)) (sym c.if-is_truth.true) t

pub returns-clause-tells : goal.returns-clause-tells
returns-clause-tells c =
    let nodes = c.args.forest.now.forest.nodes in
    IfOk-weaker c.all_read.result _ _
    (λ told h s e a t. subst (λ b. Tells nodes told (beside s b a)) (sym c.if-is_truth.false) (subst (λ all. Tells nodes told (with_read all a.set a)) (sym e) (h a t)))
    c.all_read.ensures.tells
