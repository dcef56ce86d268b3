use Rattle.std.proofs.Common.{sym, ◌∙◌}
use Rattle.xf_eval_shape.proofs.Weaves.{past-next}
use Rattle.xf_eval_shape.proofs.order.meet.Goals as goal

pub returns-then-comes_next-clause-at : goal.returns-then-comes_next-clause-at
returns-then-comes_next-clause-at c = past-next c.args.node.number c.args.owners.now c.args.at (sym c.comes_next.ensures ∙ c.if-comes_next.true)
