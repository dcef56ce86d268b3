use Rattle.std.proofs.Common.{◌∙◌}
use Rattle.xf_def_forest.specs.Visit.{visits}
use Rattle.xf_valid.proofs.Pieces.{many-filled, one-filled}
use Rattle.xf_valid.proofs.invalid.is_empty.Goals as goal

pub returns-in-Some : goal.returns-in-Some
returns-in-Some c = c.is_empty_text.ensures ∙ one-filled c.args.node.number (visits c.args.forest.now.forest.nodes) c.in-Some.text.now c.in-Some.ensures

pub returns-in-None : goal.returns-in-None
returns-in-None c = many-filled c.args.node.number (visits c.args.forest.now.forest.nodes) c.in-None.ensures
