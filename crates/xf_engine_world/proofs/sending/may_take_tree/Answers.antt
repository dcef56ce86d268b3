use Rattle.std.proofs.Common.{ap, ◌∙◌}
use Rattle.xf_def_forest.specs.Forest.{Forest}
use Rattle.xf_def_machine.specs.Properties.{marks_in}
use Rattle.xf_submit.specs.Targets.{takes_tree}
use Rattle.xf_engine_world.specs.State.{state_of}
use Rattle.xf_engine_world.proofs.sending.may_take_tree.Goals as goal

pub returns : goal.returns
returns c =
    let n = c.args.node.number in
    c.takes_tree.ensures
    ∙ ap (λ marks. takes_tree marks c.forest.result.now.forest.nodes n) c.marks.ensures
    ∙ ap (λ (f : Forest). takes_tree (marks_in (state_of c.args.world.now)) f.nodes n) c.forest.ensures
