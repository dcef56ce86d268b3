use Rattle.std.proofs.Common.{ap, ◌∙◌, ◌==◌}
use Rattle.xf_def_forest.specs.Changes.{place_among}
use Rattle.xf_insert.proofs.AtLaws.{children-axis, position-none, position-some}
use Rattle.xf_insert.proofs.placing.place_of.Goals as goal

pub returns-in-Some : goal.returns-in-Some
returns-in-Some c =
    let n = c.args.node.number in
    position-some (λ m. m == n) c.in_ok-children.children c.in-Some.place c.in-Some.ensures
    ∙ ap (place_among n) (c.in_ok-children.ensures ∙ children-axis c.args.parent.number c.args.forest.now.forest c.requires)

pub returns : goal.returns
returns c =
    let n = c.args.node.number in
    c.len.ensures ∙ position-none (λ m. m == n) c.in_ok-children.children c.in-None.ensures
    ∙ ap (place_among n) (c.in_ok-children.ensures ∙ children-axis c.args.parent.number c.args.forest.now.forest c.requires)
