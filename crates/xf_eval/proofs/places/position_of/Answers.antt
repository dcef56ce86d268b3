use Rattle.std.proofs.Common.{sym, ◌∙◌}
use Rattle.xf_eval.proofs.Positions.{position-is, position-none}
use Rattle.xf_eval.proofs.places.position_of.Goals as goal

pub returns-then-is_at : goal.returns-then-is_at
returns-then-is_at c = position-is c.args.decimals c.args.number c.wholes_in-place.result c.wholes_in-place.ensures.size c.wholes_in-place.ensures.place (sym c.is_at.ensures ∙ c.if-is_at.true)

pub returns : goal.returns
returns c = position-none c.args.decimals c.args.number c.wholes_in-place.result c.wholes_in-place.ensures.size c.wholes_in-place.ensures.place (sym c.is_at.ensures ∙ c.if-is_at.false)
