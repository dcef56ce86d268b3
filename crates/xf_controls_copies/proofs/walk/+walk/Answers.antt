use Rattle.std.proofs.Common.{◌≡◌, ◌-◌, suc, Some, get_or, map, option_map, refl, sym, ap, ◌∙◌, arith}
use Rattle.std.proofs.lemmas.Result.{err_from_is_err_and}
use Rattle.xf_def_forest.specs.declared.node.NodeId.{NodeId}
use Rattle.xf_def_ui.specs.Context.{context_in, enter}
use Rattle.xf_def_ui.specs.Elements.{element_at}
use Rattle.xf_def_ui.specs.Interface.{interface_of}
use Rattle.xf_form_elements.specs.Bound.{seen_bound}
use Rattle.xf_eval_context.specs.Inside.{seen_context, seen_inside}
use Rattle.xf_eval_context.specs.Over.{around_over}
use Rattle.xf_controls.specs.Seen.{number, seen_copy}
use Rattle.xf_controls_copies.specs.Handed.{in_row, inside_of}
use Rattle.xf_controls_copies.specs.Made.{behind, of_part, of_parts}
use Rattle.xf_controls_copies.specs.Seen.{seen_handed}
use Rattle.xf_controls_copies.specs.Walk.{copies_from, in_other, in_rows, of_children, of_control}
use Rattle.xf_controls_copies.proofs.PutLaws.{behind-end, behind-lost, lost-at, no-more, one-lost, one-put, put-at, puts-fault, puts-memory, puts-same, puts-whole}
use Rattle.xf_controls_copies.proofs.StepLaws.{as-control, as-other, control-lost, copy-lost, in-plain, in-repeat, none-left, other-is, other-lost, own-put, passed-over, puts-rest, rows-are, rows-lost, some-same}
use Rattle.xf_controls_copies.proofs.walk.+walk.Goals as goal

-- ---- an element

pub push_below-returns-then-most-eq0 : goal.push_below-returns-then-most-eq0
push_below-returns-then-most-eq0 g t c =
    let o = c.args.state.now.over in
    let f = interface_of o.form.now in
    let a = around_over o in
    let marks = g.M.NodeMarks.marks_of c.args.state.now.marks.now in
    let cases = c.args.state.now.cases.now in
    let h = seen_handed c.args.handed.now in
    let old = map seen_copy c.args.all.now in
    ap (behind old) (none-left f a marks cases h c.args.element c.args.most c.if-most-eq0.true) ∙ behind-end old

pub push_below-returns-then-is_passed_at : goal.push_below-returns-then-is_passed_at
push_below-returns-then-is_passed_at g t c =
    let o = c.args.state.now.over in
    let f = interface_of o.form.now in
    let a = around_over o in
    let marks = g.M.NodeMarks.marks_of c.args.state.now.marks.now in
    let cases = c.args.state.now.cases.now in
    let h = seen_handed c.args.handed.now in
    let n = c.args.element in
    let k = c.args.most - 1 in
    let more : c.args.most ≡ suc k = omega (arith, c.if-most-eq0.false) in
    let old = map seen_copy c.args.all.now in
    ap (behind old) (passed-over f a marks cases h n c.args.most k more (sym c.is_passed_at.ensures ∙ c.if-is_passed_at.true)) ∙ behind-end old

pub push_below-returns-then-is_control : goal.push_below-returns-then-is_control
push_below-returns-then-is_control g t c =
    let o = c.args.state.now.over in
    let f = interface_of o.form.now in
    let a = around_over o in
    let marks = g.M.NodeMarks.marks_of c.args.state.now.marks.now in
    let cases = c.args.state.now.cases.now in
    let h = seen_handed c.args.handed.now in
    let n = c.args.element in
    let k = c.args.most - 1 in
    let more : c.args.most ≡ suc k = omega (arith, c.if-most-eq0.false) in
    puts-same c.push_control.result (map seen_copy c.args.all.now) (map seen_copy c.push_control.new.all)
    (of_control (copies_from k f a marks cases) f a marks cases h n) (copies_from c.args.most f a marks cases h n)
    (as-control f a marks cases h n c.args.most k more (sym c.is_passed_at.ensures ∙ c.if-is_passed_at.false) (sym c.is_control.ensures ∙ c.if-is_control.true)) c.push_control.ensures

pub push_below-returns : goal.push_below-returns
push_below-returns g t c =
    let o = c.args.state.now.over in
    let f = interface_of o.form.now in
    let a = around_over o in
    let marks = g.M.NodeMarks.marks_of c.args.state.now.marks.now in
    let cases = c.args.state.now.cases.now in
    let h = seen_handed c.args.handed.now in
    let n = c.args.element in
    let k = c.args.most - 1 in
    let more : c.args.most ≡ suc k = omega (arith, c.if-most-eq0.false) in
    puts-same c.push_other.result (map seen_copy c.args.all.now) (map seen_copy c.push_other.new.all)
    (in_other (copies_from k f a marks cases) f a h n) (copies_from c.args.most f a marks cases h n)
    (as-other f a marks cases h n c.args.most k more (sym c.is_passed_at.ensures ∙ c.if-is_passed_at.false) (sym c.is_control.ensures ∙ c.if-is_control.false)) c.push_other.ensures

-- ---- a control or container

pub push_control-returns-in_err-found : goal.push_control-returns-in_err-found
push_control-returns-in_err-found g t c =
    let o = c.args.state.now.over in
    let f = interface_of o.form.now in
    let a = around_over o in
    let marks = g.M.NodeMarks.marks_of c.args.state.now.marks.now in
    let cases = c.args.state.now.cases.now in
    let h = seen_handed c.args.handed.now in
    let n = c.args.element in
    let further = copies_from c.args.most f a marks cases in
    let p = err_from_is_err_and c.from_residual.result c.from_residual.ensures.1 in
    rw (p.1, p.2) (puts-fault _ _ _ _ (of_control further f a marks cases h n) (control-lost f a marks cases h n further) c.in_err-found.ensures.value)

pub push_control-returns-in_err-push_own : goal.push_control-returns-in_err-push_own
push_control-returns-in_err-push_own g t c =
    let o = c.args.state.now.over in
    let f = interface_of o.form.now in
    let a = around_over o in
    let marks = g.M.NodeMarks.marks_of c.args.state.now.marks.now in
    let cases = c.args.state.now.cases.now in
    let h = seen_handed c.args.handed.now in
    let n = c.args.element in
    let further = copies_from c.args.most f a marks cases in
    let p = err_from_is_err_and c.from_residual-in_err-push_own.result c.from_residual-in_err-push_own.ensures.1 in
    rw (p.1, p.2) (puts-whole _ (map seen_copy c.args.all.now) (map seen_copy c.push_own.new.all) _ _ _ (of_control further f a marks cases h n)
    (copy-lost f a marks cases h n further (option_map number c.in_ok-found.found.node) c.in_ok-found.ensures.value) c.in_err-push_own.ensures)

pub push_control-returns-then-is_repeat : goal.push_control-returns-then-is_repeat
push_control-returns-then-is_repeat g t c =
    let o = c.args.state.now.over in
    let f = interface_of o.form.now in
    let a = around_over o in
    let marks = g.M.NodeMarks.marks_of c.args.state.now.marks.now in
    let cases = c.args.state.now.cases.now in
    let h = seen_handed c.args.handed.now in
    let n = c.args.element in
    let further = copies_from c.args.most f a marks cases in
    let node = option_map number c.in_ok-found.found.node in
    let mid = map seen_copy c.push_own.new.all in
    puts-rest c.push_rows.result (map seen_copy c.args.all.now) mid (map seen_copy c.push_rows.new.all) (in_rows further f a h n) (of_control further f a marks cases h n)
    (own-put f a marks cases h n further node (map seen_copy c.args.all.now) mid c.in_ok-found.ensures.value c.in_ok-push_own.ensures
    ∙ ap (behind mid) (in-repeat f a marks cases h n further node (sym c.is_repeat.ensures ∙ c.if-is_repeat.true)))
    c.push_rows.ensures

pub push_control-returns : goal.push_control-returns
push_control-returns g t c =
    let o = c.args.state.now.over in
    let f = interface_of o.form.now in
    let a = around_over o in
    let marks = g.M.NodeMarks.marks_of c.args.state.now.marks.now in
    let cases = c.args.state.now.cases.now in
    let h = seen_handed c.args.handed.now in
    let n = c.args.element in
    let further = copies_from c.args.most f a marks cases in
    let node = option_map number c.in_ok-found.found.node in
    let mid = map seen_copy c.push_own.new.all in
    puts-rest c.push_parts.result (map seen_copy c.args.all.now) mid (map seen_copy c.push_parts.new.all) (of_children further f (seen_handed c.handed_by.result) n) (of_control further f a marks cases h n)
    (own-put f a marks cases h n further node (map seen_copy c.args.all.now) mid c.in_ok-found.ensures.value c.in_ok-push_own.ensures
    ∙ ap (behind mid) (in-plain f a marks cases h n further node (sym c.is_repeat.ensures ∙ c.if-is_repeat.false) ∙ sym (ap (λ d. of_children further f d n) c.handed_by.ensures)))
    c.push_parts.ensures

-- ---- any other element

pub push_other-returns-in_err-within : goal.push_other-returns-in_err-within
push_other-returns-in_err-within g t c =
    let o = c.args.state.now.over in
    let f = interface_of o.form.now in
    let a = around_over o in
    let marks = g.M.NodeMarks.marks_of c.args.state.now.marks.now in
    let cases = c.args.state.now.cases.now in
    let h = seen_handed c.args.handed.now in
    let n = c.args.element in
    let further = copies_from c.args.most f a marks cases in
    let p = err_from_is_err_and c.from_residual.result c.from_residual.ensures.1 in
    rw (p.1, p.2) (puts-fault _ _ _ _ (in_other further f a h n)
    (λ e. other-lost f a marks cases h n further (sym (ap (λ s. enter f a s (element_at f n)) c.inside_of.ensures) ∙ e)) c.in_err-within.ensures)

pub push_other-returns : goal.push_other-returns
push_other-returns g t c =
    let o = c.args.state.now.over in
    let f = interface_of o.form.now in
    let a = around_over o in
    let marks = g.M.NodeMarks.marks_of c.args.state.now.marks.now in
    let cases = c.args.state.now.cases.now in
    let h = seen_handed c.args.handed.now in
    let n = c.args.element in
    let further = copies_from c.args.most f a marks cases in
    let s = seen_inside c.in_ok-within.within in
    puts-same c.push_parts.result (map seen_copy c.args.all.now) (map seen_copy c.push_parts.new.all) (of_children further f (seen_handed c.handed_in.result) n) (in_other further f a h n)
    (ap (λ d. of_children further f d n) c.handed_in.ensures
    ∙ sym (other-is f a marks cases h n further s (sym (ap (λ x. enter f a x (element_at f n)) c.inside_of.ensures) ∙ c.in_ok-within.ensures)))
    c.push_parts.ensures

-- ---- row by row

pub push_rows-returns-in_err-set : goal.push_rows-returns-in_err-set
push_rows-returns-in_err-set g t c =
    let o = c.args.state.now.over in
    let f = interface_of o.form.now in
    let a = around_over o in
    let marks = g.M.NodeMarks.marks_of c.args.state.now.marks.now in
    let cases = c.args.state.now.cases.now in
    let h = seen_handed c.args.handed.now in
    let n = c.args.element in
    let further = copies_from c.args.most f a marks cases in
    let e = element_at f n in
    let place = seen_context c.in_ok-situation.situation in
    let stands : place ≡ context_in f a (inside_of h) e = sym (some-same c.in_ok-situation.ensures) ∙ ap (λ s. context_in f a s e) c.inside_of.ensures in
    let p = err_from_is_err_and c.from_residual-in_err-set.result c.from_residual-in_err-set.ensures.1 in
    rw (p.1, p.2) (puts-fault _ _ _ _ (in_rows further f a h n) (rows-lost f a marks cases h n further place (seen_bound c.binding_at.result) stands c.binding_at.ensures) c.in_err-set.ensures)

pub push_rows-returns-in_err-chain : goal.push_rows-returns-in_err-chain
push_rows-returns-in_err-chain g t c =
    let o = c.args.state.now.over in
    let f = interface_of o.form.now in
    let a = around_over o in
    let marks = g.M.NodeMarks.marks_of c.args.state.now.marks.now in
    let cases = c.args.state.now.cases.now in
    let h = seen_handed c.args.handed.now in
    let n = c.args.element in
    let further = copies_from c.args.most f a marks cases in
    let p = err_from_is_err_and c.from_residual-in_err-chain.result c.from_residual-in_err-chain.ensures.1 in
    rw (p.1) (puts-memory _ _ _ (in_rows further f a h n) p.2)

pub push_rows-returns-in_err-below : goal.push_rows-returns-in_err-below
push_rows-returns-in_err-below g t c =
    let o = c.args.state.now.over in
    let f = interface_of o.form.now in
    let a = around_over o in
    let marks = g.M.NodeMarks.marks_of c.args.state.now.marks.now in
    let cases = c.args.state.now.cases.now in
    let h = seen_handed c.args.handed.now in
    let n = c.args.element in
    let further = copies_from c.args.most f a marks cases in
    let p = err_from_is_err_and c.from_residual-in_err-below.result c.from_residual-in_err-below.ensures.1 in
    rw (p.1, p.2) (puts-fault _ _ _ _ (in_rows further f a h n) (λ e. cc e) c.in_err-below.ensures)

pub push_rows-returns-in_err-push_parts : goal.push_rows-returns-in_err-push_parts
push_rows-returns-in_err-push_parts g t c =
    let o = c.args.state.now.over in
    let f = interface_of o.form.now in
    let a = around_over o in
    let marks = g.M.NodeMarks.marks_of c.args.state.now.marks.now in
    let cases = c.args.state.now.cases.now in
    let h = seen_handed c.args.handed.now in
    let n = c.args.element in
    let further = copies_from c.args.most f a marks cases in
    let e = element_at f n in
    let place = seen_context c.in_ok-situation.situation in
    let stands : place ≡ context_in f a (inside_of h) e = sym (some-same c.in_ok-situation.ensures) ∙ ap (λ s. context_in f a s e) c.inside_of.ensures in
    let model = c.in_ok-situation.situation.model in
    let nodes = c.as_slice-node-items.result.now in
    let set = map number nodes in
    let made = λ (x : NodeId). of_children further f (in_row h model set x.number) n in
    let i = c.loop-node.node-index in
    let none : NodeId = record { number = 0; place = 0 } in
    let now = map seen_copy c.loop-node.all in
    let m = get_or nodes i none in
    let down = ap (λ ms. of_children further f (in_row h model ms m.number) n) c.as_slice-node-items.ensures ∙ ap (λ d. of_children further f d n) (some-same c.in_ok-below.ensures) in
    let whole = in_rows further f a h n in
    let p = err_from_is_err_and c.from_residual-in_err-push_parts.result c.from_residual-in_err-push_parts.ensures.1 in
    rw (p.1, p.2) (puts-whole _ now (map seen_copy c.push_parts.new.all) _ _ _ whole
    (λ l. behind-lost (map seen_copy c.args.all.now) whole
    (ap (behind (map seen_copy c.args.all.now))
    (rows-are f a marks cases h n further place (seen_bound c.binding_at.result) set nodes stands c.binding_at.ensures (c.in_ok-set.ensures ∙ ap Some (sym c.as_slice-node-items.ensures)) refl)
    ∙ c.loop-node.invariant
    ∙ ap (behind now) (lost-at made nodes i none c.loop-node-test.true (down ∙ l))))
    c.in_err-push_parts.ensures)

pub push_rows-loop-node-preserved : goal.push_rows-loop-node-preserved
push_rows-loop-node-preserved g t c =
    let o = c.args.state.now.over in
    let f = interface_of o.form.now in
    let a = around_over o in
    let marks = g.M.NodeMarks.marks_of c.args.state.now.marks.now in
    let cases = c.args.state.now.cases.now in
    let h = seen_handed c.args.handed.now in
    let n = c.args.element in
    let further = copies_from c.args.most f a marks cases in
    let model = c.in_ok-situation.situation.model in
    let nodes = c.as_slice-node-items.result.now in
    let set = map number nodes in
    let made = λ (x : NodeId). of_children further f (in_row h model set x.number) n in
    let i = c.loop-node.node-index in
    let none : NodeId = record { number = 0; place = 0 } in
    let now = map seen_copy c.loop-node.all in
    let m = get_or nodes i none in
    let down = ap (λ ms. of_children further f (in_row h model ms m.number) n) c.as_slice-node-items.ensures ∙ ap (λ d. of_children further f d n) (some-same c.in_ok-below.ensures) in
    c.loop-node.invariant
    ∙ put-at made nodes i none now (map seen_copy c.push_parts.new.all) c.loop-node-test.true
    (ap (behind now) down ∙ c.in_ok-push_parts.ensures)

pub push_rows-returns : goal.push_rows-returns
push_rows-returns g t c =
    let o = c.args.state.now.over in
    let f = interface_of o.form.now in
    let a = around_over o in
    let marks = g.M.NodeMarks.marks_of c.args.state.now.marks.now in
    let cases = c.args.state.now.cases.now in
    let h = seen_handed c.args.handed.now in
    let n = c.args.element in
    let further = copies_from c.args.most f a marks cases in
    let e = element_at f n in
    let place = seen_context c.in_ok-situation.situation in
    let stands : place ≡ context_in f a (inside_of h) e = sym (some-same c.in_ok-situation.ensures) ∙ ap (λ s. context_in f a s e) c.inside_of.ensures in
    let model = c.in_ok-situation.situation.model in
    let nodes = c.as_slice-node-items.result.now in
    let set = map number nodes in
    let made = λ (x : NodeId). of_children further f (in_row h model set x.number) n in
    let i = c.loop-node.node-index in
    ap (behind (map seen_copy c.args.all.now))
    (rows-are f a marks cases h n further place (seen_bound c.binding_at.result) set nodes stands c.binding_at.ensures (c.in_ok-set.ensures ∙ ap Some (sym c.as_slice-node-items.ensures)) refl)
    ∙ c.loop-node.invariant ∙ no-more made nodes i (map seen_copy c.loop-node.all) c.loop-node-test.false

-- ---- part after part

pub push_parts-returns-in_err-push_part : goal.push_parts-returns-in_err-push_part
push_parts-returns-in_err-push_part g t c =
    let o = c.args.state.now.over in
    let f = interface_of o.form.now in
    let a = around_over o in
    let marks = g.M.NodeMarks.marks_of c.args.state.now.marks.now in
    let cases = c.args.state.now.cases.now in
    let h = seen_handed c.args.handed.now in
    let n = c.args.element in
    let further = copies_from c.args.most f a marks cases h in
    let ps = c.parts_at-part-items.result.now in
    let whole = of_parts further (element_at f n).parts in
    let p = err_from_is_err_and c.from_residual.result c.from_residual.ensures.1 in
    rw (p.1, p.2) (puts-whole _ (map seen_copy c.loop-part.all) (map seen_copy c.push_part.new.all) _ _ _ whole
    (λ l. behind-lost (map seen_copy c.args.all.now) whole
    (ap (λ qs. behind (map seen_copy c.args.all.now) (of_parts further qs)) (sym c.parts_at-part-items.ensures)
    ∙ c.loop-part.invariant
    ∙ ap (behind (map seen_copy c.loop-part.all)) (one-lost (of_part further) ps c.loop-part.part-index c.part-item.result c.loop-part-test.true c.part-item.is l)))
    c.in_err-push_part.ensures)

pub push_parts-loop-part-preserved : goal.push_parts-loop-part-preserved
push_parts-loop-part-preserved g t c =
    let o = c.args.state.now.over in
    let f = interface_of o.form.now in
    let a = around_over o in
    let marks = g.M.NodeMarks.marks_of c.args.state.now.marks.now in
    let cases = c.args.state.now.cases.now in
    let h = seen_handed c.args.handed.now in
    let further = copies_from c.args.most f a marks cases h in
    let ps = c.parts_at-part-items.result.now in
    c.loop-part.invariant
    ∙ one-put (of_part further) ps c.loop-part.part-index c.part-item.result (map seen_copy c.loop-part.all) (map seen_copy c.push_part.new.all) c.loop-part-test.true c.part-item.is c.in_ok-push_part.ensures

pub push_parts-returns : goal.push_parts-returns
push_parts-returns g t c =
    let o = c.args.state.now.over in
    let f = interface_of o.form.now in
    let a = around_over o in
    let marks = g.M.NodeMarks.marks_of c.args.state.now.marks.now in
    let cases = c.args.state.now.cases.now in
    let h = seen_handed c.args.handed.now in
    let n = c.args.element in
    let further = copies_from c.args.most f a marks cases h in
    let ps = c.parts_at-part-items.result.now in
    ap (λ qs. behind (map seen_copy c.args.all.now) (of_parts further qs)) (sym c.parts_at-part-items.ensures)
    ∙ c.loop-part.invariant ∙ no-more (of_part further) ps c.loop-part.part-index (map seen_copy c.loop-part.all) c.loop-part-test.false
