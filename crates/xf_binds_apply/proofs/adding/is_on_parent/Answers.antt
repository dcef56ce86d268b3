use Rattle.std.proofs.Common.{◌&&◌, sym, ap, ◌∙◌}
use Rattle.xf_def_forest.specs.Shape.{has_elements, shape_of}
use Rattle.xf_binds_apply.proofs.SetLaws.{elements-same}
use Rattle.xf_binds_apply.proofs.adding.is_on_parent.Goals as goal

pub returns-then-is_calculate : goal.returns-then-is_calculate
returns-then-is_calculate c =
    let nodes = c.args.forest.now.forest.nodes in
    c.has_elements.ensures ∙ sym (elements-same nodes c.args.node.number)
    ∙ ap (λ b. b && has_elements (shape_of nodes) c.args.node.number) (sym c.if-is_calculate.true ∙ c.is_calculate.ensures)
