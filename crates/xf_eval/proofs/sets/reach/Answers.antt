use Rattle.std.proofs.Common.{◌++◌, ap, ◌∙◌}
use Rattle.std.proofs.lemmas.Result.{on_ok_weaker}
use Rattle.xf_eval.proofs.Sought.{chosen-reached}
use Rattle.xf_eval.proofs.sets.reach.Goals as goal

pub returns : goal.returns
returns c =
    on_ok_weaker c.choose.result
    (λ h. h ∙ ap (λ l. c.args.found.now ++ l) (chosen-reached c.sought_of.result c.args.axis c.args.test.now c.sought_of.ensures c.args.forest.now c.are_trees.ensures c.args.node.number))
    c.choose.ensures
