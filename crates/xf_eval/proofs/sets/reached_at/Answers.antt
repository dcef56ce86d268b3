use Rattle.std.proofs.Common.{ap, ◌∙◌, slice_get}
use Rattle.xf_eval.proofs.Sought.{chosen-reached}
use Rattle.xf_eval.proofs.sets.reached_at.Goals as goal

pub returns : goal.returns
returns c =
    c.chosen_at.ensures
    ∙ ap (λ l. slice_get l c.args.at) (chosen-reached c.sought_of.result c.args.axis c.args.test.now c.sought_of.ensures c.args.forest.now c.are_trees.ensures c.args.node.number)
