use Rattle.std.proofs.Common.{sym, ◌∙◌}
use Rattle.xf_def_forest.specs.Visit.{visits}
use Rattle.xf_controls.proofs.ShownLaws.{on-true, text-stays}
use Rattle.xf_controls.proofs.value.has_text.Goals as goal

pub returns-then-is_short : goal.returns-then-is_short
returns-then-is_short c =
    on-true c.is.result (λ yes.
    text-stays c.args.node.number (visits c.args.forest.now.forest.nodes) c.args.text.now c.in-Some.whole.now c.in-Some.ensures c.if-is_short.ensures (sym c.is.ensures ∙ yes))
