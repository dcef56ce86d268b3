use Rattle.std.proofs.Common.{◌∙◌, sym}
use Rattle.xf_eval.proofs.WayLaws.{as-written, straight-down}
use Rattle.xf_eval.proofs.ways.way_of.Goals as goal

pub returns-then-count-eq1 : goal.returns-then-count-eq1
returns-then-count-eq1 c =
    straight-down c.args.forest.now c.args.step.now c.args.from.now c.are_trees.ensures c.if-step.true (sym c.is_child.ensures ∙ c.if-is_child.true) (sym c.len-asked.ensures ∙ c.if-asked-eq0.true)
    (sym c.len-count.ensures ∙ c.if-count-eq1.true)

pub returns : goal.returns
returns c = as-written c.args.forest.now c.args.step.now c.args.from.now
