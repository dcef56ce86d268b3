use Rattle.xf_eval.proofs.Parts.{bounded-gives}
use Rattle.xf_eval.proofs.expression.evaluate.Goals as goal

pub returns-clause-value : goal.returns-clause-value
returns-clause-value g c = bounded-gives c.value_at.result _ c.value_at.ensures.value
