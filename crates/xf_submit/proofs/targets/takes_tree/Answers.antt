use Rattle.std.proofs.Common.{not, ◌&&◌, ap, sym, ◌∙◌}
use Rattle.xf_def_ui.specs.declared.marks.Marks.{Marks}
use Rattle.xf_submit.proofs.NodeLaws.{element-among}
use Rattle.xf_submit.proofs.targets.takes_tree.Goals as goal

pub returns-then-not-is_element : goal.returns-then-not-is_element
returns-then-not-is_element g c =
    let n = c.args.node.number in
    let nodes = c.args.forest.now.forest.nodes in
    sym (ap (λ b. b && not (g.M.NodeMarks.marks_of c.args.marks.now n).readonly) (element-among n nodes c.are_trees.ensures.apart ∙ sym c.is_element.ensures ∙ c.if-not-is_element.true))

pub returns : goal.returns
returns g c =
    let n = c.args.node.number in
    let nodes = c.args.forest.now.forest.nodes in
    ap (λ (m : Marks). not m.readonly) c.marks.ensures
    ∙ sym (ap (λ b. b && not (g.M.NodeMarks.marks_of c.args.marks.now n).readonly) (element-among n nodes c.are_trees.ensures.apart ∙ sym c.is_element.ensures ∙ c.if-not-is_element.false))
