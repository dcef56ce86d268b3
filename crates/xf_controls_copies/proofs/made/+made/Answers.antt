use Rattle.std.proofs.Common.{◌≡◌, ◌-◌, suc, get_or, map, sym, ap, ◌∙◌, arith}
use Rattle.std.proofs.lemmas.Result.{err_from_is_err_and}
use Rattle.xf_def_forest.specs.declared.node.NodeId.{NodeId}
use Rattle.xf_def_ui.specs.Copies.{copy_of}
use Rattle.xf_def_ui.specs.Elements.{element_at, is_control}
use Rattle.xf_def_ui.specs.Interface.{interface_of}
use Rattle.xf_eval_context.specs.Over.{around_over}
use Rattle.xf_controls.specs.Seen.{number, seen_copy}
use Rattle.xf_controls_copies.specs.Made.{behind, copies_at, if_control, inner_copies, of_part, of_parts, row_copies}
use Rattle.xf_controls_copies.proofs.MadeLaws.{at_row, is-repeat, no-repeat, none-nested, own-then, own-too-long, row-is, rows-are, rows-lost}
use Rattle.xf_controls_copies.proofs.PutLaws.{behind-end, behind-lost, lost-at, no-more, one-lost, one-put, put-at, puts-after, puts-fault, puts-memory, puts-same, puts-whole}
use Rattle.xf_controls_copies.proofs.made.+made.Goals as goal

-- ---- an element

pub push_copies-returns-then-most-eq0 : goal.push_copies-returns-then-most-eq0
push_copies-returns-then-most-eq0 g t c =
    let o = c.args.state.now.over in
    let f = interface_of o.form.now in
    let a = around_over o in
    let marks = g.M.NodeMarks.marks_of c.args.state.now.marks.now in
    let cases = c.args.state.now.cases.now in
    let rows = map number c.args.rows.now in
    let old = map seen_copy c.args.all.now in
    ap (behind old) (none-nested f a marks cases c.args.most rows c.args.element c.if-most-eq0.true) ∙ behind-end old

pub push_copies-returns-in_err-push_own : goal.push_copies-returns-in_err-push_own
push_copies-returns-in_err-push_own g t c =
    let o = c.args.state.now.over in
    let f = interface_of o.form.now in
    let a = around_over o in
    let marks = g.M.NodeMarks.marks_of c.args.state.now.marks.now in
    let cases = c.args.state.now.cases.now in
    let rows = map number c.args.rows.now in
    let k = c.args.most - 1 in
    let n = c.args.element in
    let more : c.args.most ≡ suc k = omega (arith, c.if-most-eq0.false) in
    let p = err_from_is_err_and c.from_residual.result c.from_residual.ensures.1 in
    rw (p.1, p.2) (puts-whole _ (map seen_copy c.args.all.now) (map seen_copy c.push_own.new.all) _ _ _ (copies_at c.args.most f a marks cases rows n)
    (own-too-long f a marks cases c.args.most k rows n more) c.in_err-push_own.ensures)

pub push_copies-returns : goal.push_copies-returns
push_copies-returns g t c =
    let o = c.args.state.now.over in
    let f = interface_of o.form.now in
    let a = around_over o in
    let marks = g.M.NodeMarks.marks_of c.args.state.now.marks.now in
    let cases = c.args.state.now.cases.now in
    let rows = map number c.args.rows.now in
    let k = c.args.most - 1 in
    let n = c.args.element in
    let more : c.args.most ≡ suc k = omega (arith, c.if-most-eq0.false) in
    puts-after c.push_inner.result (map seen_copy c.args.all.now) (map seen_copy c.push_own.new.all) (map seen_copy c.push_inner.new.all)
    (if_control (is_control (element_at f n).sort) (copy_of f a marks cases rows n)) (inner_copies f a (copies_at k f a marks cases) rows n) (copies_at c.args.most f a marks cases rows n)
    (own-then f a marks cases c.args.most k rows n more) c.in_ok-push_own.ensures c.push_inner.ensures

-- ---- what stands in it

pub push_inner-returns-then-is_repeat : goal.push_inner-returns-then-is_repeat
push_inner-returns-then-is_repeat g t c =
    let o = c.args.state.now.over in
    let f = interface_of o.form.now in
    let a = around_over o in
    let marks = g.M.NodeMarks.marks_of c.args.state.now.marks.now in
    let cases = c.args.state.now.cases.now in
    let rows = map number c.args.rows.now in
    let n = c.args.element in
    let further = copies_at c.args.most f a marks cases in
    puts-same c.push_rows.result (map seen_copy c.args.all.now) (map seen_copy c.push_rows.new.all) (row_copies f a further rows n) (inner_copies f a further rows n)
    (is-repeat f a further rows n (sym c.is_repeat.ensures ∙ c.if-is_repeat.true)) c.push_rows.ensures

pub push_inner-returns : goal.push_inner-returns
push_inner-returns g t c =
    let o = c.args.state.now.over in
    let f = interface_of o.form.now in
    let a = around_over o in
    let marks = g.M.NodeMarks.marks_of c.args.state.now.marks.now in
    let cases = c.args.state.now.cases.now in
    let rows = map number c.args.rows.now in
    let n = c.args.element in
    let further = copies_at c.args.most f a marks cases in
    puts-same c.push_parts.result (map seen_copy c.args.all.now) (map seen_copy c.push_parts.new.all) (of_parts (further rows) (element_at f n).parts) (inner_copies f a further rows n)
    (no-repeat f a further rows n (sym c.is_repeat.ensures ∙ c.if-is_repeat.false)) c.push_parts.ensures

-- ---- row by row

pub push_rows-returns-in_err-set : goal.push_rows-returns-in_err-set
push_rows-returns-in_err-set g t c =
    let o = c.args.state.now.over in
    let f = interface_of o.form.now in
    let a = around_over o in
    let marks = g.M.NodeMarks.marks_of c.args.state.now.marks.now in
    let cases = c.args.state.now.cases.now in
    let rows = map number c.args.rows.now in
    let n = c.args.element in
    let further = copies_at c.args.most f a marks cases in
    let p = err_from_is_err_and c.from_residual.result c.from_residual.ensures.1 in
    rw (p.1, p.2) (puts-fault _ _ _ _ (row_copies f a further rows n) (rows-lost f a further rows n) c.in_err-set.ensures)

pub push_rows-returns-in_err-chain : goal.push_rows-returns-in_err-chain
push_rows-returns-in_err-chain g t c =
    let o = c.args.state.now.over in
    let f = interface_of o.form.now in
    let a = around_over o in
    let marks = g.M.NodeMarks.marks_of c.args.state.now.marks.now in
    let cases = c.args.state.now.cases.now in
    let rows = map number c.args.rows.now in
    let n = c.args.element in
    let further = copies_at c.args.most f a marks cases in
    let p = err_from_is_err_and c.from_residual-in_err-chain.result c.from_residual-in_err-chain.ensures.1 in
    rw (p.1) (puts-memory _ _ _ (row_copies f a further rows n) p.2)

pub push_rows-returns-in_err-push_parts : goal.push_rows-returns-in_err-push_parts
push_rows-returns-in_err-push_parts g t c =
    let o = c.args.state.now.over in
    let f = interface_of o.form.now in
    let a = around_over o in
    let marks = g.M.NodeMarks.marks_of c.args.state.now.marks.now in
    let cases = c.args.state.now.cases.now in
    let rows = map number c.args.rows.now in
    let n = c.args.element in
    let further = copies_at c.args.most f a marks cases in
    let made = at_row f a further rows n in
    let nodes = c.as_slice-node-items.result.now in
    let i = c.loop-node.node-index in
    let none : NodeId = record { number = 0; place = 0 } in
    let m = get_or nodes i none in
    let whole = row_copies f a further rows n in
    let p = err_from_is_err_and c.from_residual-in_err-push_parts.result c.from_residual-in_err-push_parts.ensures.1 in
    rw (p.1, p.2) (puts-whole _ (map seen_copy c.loop-node.all) (map seen_copy c.push_parts.new.all) _ _ _ whole
    (λ h. behind-lost (map seen_copy c.args.all.now) whole
    (ap (behind (map seen_copy c.args.all.now)) (rows-are f a further rows n c.in_ok-set.set nodes c.in_ok-set.ensures c.as_slice-node-items.ensures)
    ∙ c.loop-node.invariant
    ∙ ap (behind (map seen_copy c.loop-node.all))
    (lost-at made nodes i none c.loop-node-test.true (sym (row-is f a further rows n _ m (c.as_slice.ensures ∙ c.in_ok-chain.ensures)) ∙ h))))
    c.in_err-push_parts.ensures)

pub push_rows-loop-node-preserved : goal.push_rows-loop-node-preserved
push_rows-loop-node-preserved g t c =
    let o = c.args.state.now.over in
    let f = interface_of o.form.now in
    let a = around_over o in
    let marks = g.M.NodeMarks.marks_of c.args.state.now.marks.now in
    let cases = c.args.state.now.cases.now in
    let rows = map number c.args.rows.now in
    let n = c.args.element in
    let further = copies_at c.args.most f a marks cases in
    let made = at_row f a further rows n in
    let nodes = c.as_slice-node-items.result.now in
    let i = c.loop-node.node-index in
    let none : NodeId = record { number = 0; place = 0 } in
    let m = get_or nodes i none in
    c.loop-node.invariant
    ∙ put-at made nodes i none (map seen_copy c.loop-node.all) (map seen_copy c.push_parts.new.all) c.loop-node-test.true
    (ap (behind (map seen_copy c.loop-node.all)) (sym (row-is f a further rows n _ m (c.as_slice.ensures ∙ c.in_ok-chain.ensures))) ∙ c.in_ok-push_parts.ensures)

pub push_rows-returns : goal.push_rows-returns
push_rows-returns g t c =
    let o = c.args.state.now.over in
    let f = interface_of o.form.now in
    let a = around_over o in
    let marks = g.M.NodeMarks.marks_of c.args.state.now.marks.now in
    let cases = c.args.state.now.cases.now in
    let rows = map number c.args.rows.now in
    let n = c.args.element in
    let further = copies_at c.args.most f a marks cases in
    let made = at_row f a further rows n in
    let nodes = c.as_slice-node-items.result.now in
    ap (behind (map seen_copy c.args.all.now)) (rows-are f a further rows n c.in_ok-set.set nodes c.in_ok-set.ensures c.as_slice-node-items.ensures)
    ∙ c.loop-node.invariant ∙ no-more made nodes c.loop-node.node-index (map seen_copy c.loop-node.all) c.loop-node-test.false

-- ---- part after part

pub push_parts-returns-in_err-push_part : goal.push_parts-returns-in_err-push_part
push_parts-returns-in_err-push_part g t c =
    let o = c.args.state.now.over in
    let f = interface_of o.form.now in
    let a = around_over o in
    let marks = g.M.NodeMarks.marks_of c.args.state.now.marks.now in
    let cases = c.args.state.now.cases.now in
    let rows = map number c.args.rows.now in
    let n = c.args.element in
    let further = copies_at c.args.most f a marks cases rows in
    let ps = c.parts_at-part-items.result.now in
    let whole = of_parts further (element_at f n).parts in
    let p = err_from_is_err_and c.from_residual.result c.from_residual.ensures.1 in
    rw (p.1, p.2) (puts-whole _ (map seen_copy c.loop-part.all) (map seen_copy c.push_part.new.all) _ _ _ whole
    (λ h. behind-lost (map seen_copy c.args.all.now) whole
    (ap (λ l. behind (map seen_copy c.args.all.now) (of_parts further l)) (sym c.parts_at-part-items.ensures)
    ∙ c.loop-part.invariant
    ∙ ap (behind (map seen_copy c.loop-part.all)) (one-lost (of_part further) ps c.loop-part.part-index c.part-item.result c.loop-part-test.true c.part-item.is h)))
    c.in_err-push_part.ensures)

pub push_parts-loop-part-preserved : goal.push_parts-loop-part-preserved
push_parts-loop-part-preserved g t c =
    let o = c.args.state.now.over in
    let f = interface_of o.form.now in
    let a = around_over o in
    let marks = g.M.NodeMarks.marks_of c.args.state.now.marks.now in
    let cases = c.args.state.now.cases.now in
    let rows = map number c.args.rows.now in
    let further = copies_at c.args.most f a marks cases rows in
    let ps = c.parts_at-part-items.result.now in
    c.loop-part.invariant
    ∙ one-put (of_part further) ps c.loop-part.part-index c.part-item.result (map seen_copy c.loop-part.all) (map seen_copy c.push_part.new.all) c.loop-part-test.true c.part-item.is c.in_ok-push_part.ensures

pub push_parts-returns : goal.push_parts-returns
push_parts-returns g t c =
    let o = c.args.state.now.over in
    let f = interface_of o.form.now in
    let a = around_over o in
    let marks = g.M.NodeMarks.marks_of c.args.state.now.marks.now in
    let cases = c.args.state.now.cases.now in
    let rows = map number c.args.rows.now in
    let n = c.args.element in
    let further = copies_at c.args.most f a marks cases rows in
    let ps = c.parts_at-part-items.result.now in
    ap (λ l. behind (map seen_copy c.args.all.now) (of_parts further l)) (sym c.parts_at-part-items.ensures)
    ∙ c.loop-part.invariant ∙ no-more (of_part further) ps c.loop-part.part-index (map seen_copy c.loop-part.all) c.loop-part-test.false
