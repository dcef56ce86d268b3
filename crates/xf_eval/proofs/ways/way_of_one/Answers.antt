use Rattle.std.proofs.Common.{◌∷◌, [], refl, ◌∙◌, sym}
use Rattle.xf_eval.proofs.WayLaws.{as-written, straight-down}
use Rattle.xf_eval.proofs.ways.way_of_one.Goals as goal

pub returns-then-asked-eq0 : goal.returns-then-asked-eq0
returns-then-asked-eq0 c =
    straight-down c.args.forest.now c.args.step.now (c.args.node.number ∷ []) c.are_trees.ensures c.if-step.true (sym c.is_child.ensures ∙ c.if-is_child.true) (sym c.len-asked.ensures ∙ c.if-asked-eq0.true) refl

pub returns : goal.returns
returns c = as-written c.args.forest.now c.args.step.now (c.args.node.number ∷ [])
