use Rattle.std.proofs.Common.{sym, ◌∙◌}
use Rattle.xf_eval_shape.proofs.Weaves.{past-next}
use Rattle.xf_eval_shape.proofs.order.put.Goals as goal

pub returns-clause-at : goal.returns-clause-at
returns-clause-at c = past-next c.args.node.number c.args.nodes.now c.args.at (sym c.comes_next.ensures ∙ c.if-not-comes_next.false)
