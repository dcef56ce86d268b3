use Rattle.std.proofs.Common.{◌∙◌}
use Rattle.std.proofs.lemmas.Result.{IfOk-weaker}
use Rattle.xf_eval.proofs.Ordered.{down-begun}
use Rattle.xf_eval.proofs.sets.down_from.Goals as goal

pub returns-clause-value : goal.returns-clause-value
returns-clause-value c = IfOk-weaker c.reached.result _ _ (λ found h. h ∙ down-begun c.args.node.number c.args.forest.now c.are_trees.ensures) c.reached.ensures.value
