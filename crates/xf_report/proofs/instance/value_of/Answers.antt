use Rattle.std.proofs.Common.{◌++◌, ap, ◌∙◌}
use Rattle.xf_def_forest.specs.Visit.{visits}
use Rattle.xf_def_forest.proofs.PieceLaws.{joined, pieces-value}
use Rattle.xf_report.proofs.instance.value_of.Goals as goal

pub loop-piece-init : goal.loop-piece-init
loop-piece-init c =
    ap (λ l. l ++ joined c.pieces-pieces.result) c.new-text.ensures.bytes ∙ ap joined c.pieces-pieces.ensures ∙ pieces-value c.args.node.number (visits c.args.forest.now.forest.nodes)
