use Rattle.std.proofs.Common.{ap, ◌∙◌}
use Rattle.xf_def_forest.specs.Visit.{first_of}
use Rattle.xf_eval_context.proofs.FirstLaws.{first-yielded}
use Rattle.xf_eval_context.proofs.AroundLaws.{children-axis}
use Rattle.xf_eval_context.proofs.around.first_child.Goals as goal

pub returns : goal.returns
returns c =
    first-yielded c.axis-walk.result c.next.new.self c.next.result c.next.ensures.steps
    ∙ ap first_of (c.axis-walk.ensures ∙ children-axis c.args.node.number c.args.forest.now.forest.nodes c.requires)
