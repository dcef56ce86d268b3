use Rattle.std.proofs.Common.{◌&&◌, sym, ap, ◌∙◌}
use Rattle.xf_def_ui.specs.declared.marks.Marks.{Marks}
use Rattle.xf_insert.proofs.ClosedLaws.{closed-has}
use Rattle.xf_insert.proofs.planning.is_closed.Goals as goal

pub returns-then-not-is_live : goal.returns-then-not-is_live
returns-then-not-is_live g c =
    let marks = g.M.NodeMarks.marks_of c.args.planning.now.marks.now in
    let n = c.args.node.number in
    sym (closed-has marks n c.args.planning.now.forest.now.forest.nodes ∙ ap (λ b. b && (marks n).readonly) (sym c.is_live.ensures ∙ c.if-not-is_live.true))

pub returns : goal.returns
returns g c =
    let marks = g.M.NodeMarks.marks_of c.args.planning.now.marks.now in
    let n = c.args.node.number in
    ap (λ (m : Marks). m.readonly) c.marks.ensures
    ∙ sym (closed-has marks n c.args.planning.now.forest.now.forest.nodes ∙ ap (λ b. b && (marks n).readonly) (sym c.is_live.ensures ∙ c.if-not-is_live.false))
