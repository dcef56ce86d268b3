use Rattle.std.proofs.Common.{sym, ◌∙◌}
use Rattle.xf_eval_shape.proofs.Reached.{stands-alone, stands-beside}
use Rattle.xf_eval_shape.proofs.leaf.stands.Goals as goal

pub returns-then-is_text : goal.returns-then-is_text
returns-then-is_text c = c.is_beside.ensures ∙ stands-beside c.args.forest.now.forest c.is_sound.ensures c.args.node.number c.requires (sym c.is_text.ensures ∙ c.if-is_text.true)

pub returns : goal.returns
returns c = stands-alone c.args.forest.now.forest c.is_sound.ensures c.args.node.number c.requires (sym c.is_text.ensures ∙ c.if-is_text.false)
