use Rattle.std.proofs.Common.{[], ap}
use Rattle.std.proofs.lemmas.Result.{IfOk-weaker}
use Rattle.xf_def_xpath.specs.Binding.{as_list}
use Rattle.xf_eval.proofs.Lives.{live-is}
use Rattle.xf_eval_context.proofs.nested.chain.document.Goals as goal

pub returns-in-Some-clause-live : goal.returns-in-Some-clause-live
returns-in-Some-clause-live g c =
    let nodes = c.args.forest.now.forest.nodes in
    IfOk-weaker c.single.result _ _ (λ found h. live-is nodes h (live-is nodes (ap as_list c.in-Some.ensures) (c.requires.documents c.args.model []))) c.single.ensures
