use Rattle.std.proofs.Common.{sym, ap, ◌∙◌}
use Rattle.xf_eval.proofs.Lists.{none-first}
use Rattle.xf_eval.proofs.sets.reaches_any.Goals as goal

pub returns : goal.returns
returns c = λ h. none-first _ c.reached_at.result (λ n. n.number) (sym c.is_some.ensures ∙ h) c.reached_at.ensures
