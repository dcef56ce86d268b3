use Rattle.std.proofs.Common.{ap, ◌++◌, ◌∙◌}
use Rattle.xf_def_xpath.specs.Steps.{reached}
use Rattle.xf_eval.specs.Worth.{seen}
use Rattle.xf_eval.proofs.Lives.{live-is, reached-live}
use Rattle.xf_eval.proofs.sets.reached.Goals as goal

pub returns-clause-live : goal.returns-clause-live
returns-clause-live c =
    let nodes = c.args.forest.now.forest.nodes in
    let found = reached c.args.axis c.args.test.now (seen nodes) c.args.node.number in
    live-is nodes (c.in_ok-reach.ensures ∙ ap (λ l. l ++ found) c.new-found.ensures) (reached-live c.args.axis c.args.test.now c.args.node.number c.args.forest.now c.are_trees.ensures)
