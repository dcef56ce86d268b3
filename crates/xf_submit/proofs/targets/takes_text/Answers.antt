use Rattle.std.proofs.Common.{not, ◌&&◌, ap, sym, ◌∙◌}
use Rattle.xf_def_ui.specs.declared.marks.Marks.{Marks}
use Rattle.xf_submit.proofs.targets.takes_text.Goals as goal

pub returns-then-has_elements : goal.returns-then-has_elements
returns-then-has_elements g c =
    let n = c.args.node.number in
    sym (ap (λ b. not b && not (g.M.NodeMarks.marks_of c.args.marks.now n).readonly) (sym c.has_elements.ensures ∙ c.if-has_elements.true))

pub returns : goal.returns
returns g c =
    let n = c.args.node.number in
    ap (λ (m : Marks). not m.readonly) c.marks.ensures
    ∙ sym (ap (λ b. not b && not (g.M.NodeMarks.marks_of c.args.marks.now n).readonly) (sym c.has_elements.ensures ∙ c.if-has_elements.false))
