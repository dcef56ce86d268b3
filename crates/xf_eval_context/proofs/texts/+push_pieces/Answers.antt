use Rattle.std.proofs.Common.{◌≡◌, ◌++◌, ◌-◌, suc, sym, ap, ◌∙◌, arith}
use Rattle.std.proofs.lemmas.List.{drop_all}
use Rattle.std.proofs.lemmas.Result.{err_from_is_err_and}
use Rattle.xf_def_ui.specs.Interface.{interface_of}
use Rattle.xf_eval_context.specs.Inside.{seen_inside}
use Rattle.xf_eval_context.specs.Texts.{behind, joined}
use Rattle.xf_eval_context.specs.Over.{around_over}
use Rattle.xf_eval_context.proofs.TextLaws.{behind-end, behind-none-is, carried, joins-whole, long-inside, long-printed, none-further, none-joined}
use Rattle.xf_eval_context.proofs.texts.+push_pieces.Goals as goal

pub returns-then-most-eq0 : goal.returns-then-most-eq0
returns-then-most-eq0 t c =
    let o = c.args.over.now in
    let f = interface_of o.form.now in
    let a = around_over o in
    let s = seen_inside c.args.within.now in
    ap (behind c.args.all.now) (none-further f a s c.args.most c.args.parts.now c.if-most-eq0.true) ∙ behind-end c.args.all.now

pub returns-in_err-push_printed : goal.returns-in_err-push_printed
returns-in_err-push_printed t c =
    let o = c.args.over.now in
    let f = interface_of o.form.now in
    let a = around_over o in
    let s = seen_inside c.args.within.now in
    let m = c.args.most - 1 in
    let ps = c.args.parts.now in
    let i = c.loop-part.part-index in
    let part = c.part-item.result in
    let more : c.args.most ≡ suc (c.args.most - 1) = omega (arith, c.if-most-eq0.false) in
    let p = err_from_is_err_and c.from_residual-in_err-push_printed.result c.from_residual-in_err-push_printed.ensures.1 in
    rw (p.1, p.2) (joins-whole _ c.push_str.new.self c.push_printed.new.all _ _ _ (joined f a s c.args.most ps)
    (λ h. behind-none-is c.args.all.now (joined f a s c.args.most ps)
    (c.loop-part.invariant ∙ ap (behind c.loop-part.all) (long-printed f a s c.args.most m i ps part c.loop-part-test.true c.part-item.is more h)))
    c.in_err-push_printed.ensures)

pub returns-in_err-push_pieces : goal.returns-in_err-push_pieces
returns-in_err-push_pieces t c =
    let o = c.args.over.now in
    let f = interface_of o.form.now in
    let a = around_over o in
    let s = seen_inside c.args.within.now in
    let m = c.args.most - 1 in
    let ps = c.args.parts.now in
    let i = c.loop-part.part-index in
    let part = c.part-item.result in
    let more : c.args.most ≡ suc (c.args.most - 1) = omega (arith, c.if-most-eq0.false) in
    let p = err_from_is_err_and c.from_residual-in_err-push_pieces.result c.from_residual-in_err-push_pieces.ensures.1 in
    rw (p.1, p.2) (joins-whole _ c.push_printed.new.all c.push_pieces.new.all _ _ _ (joined f a s c.args.most ps)
    (λ h. behind-none-is c.args.all.now (joined f a s c.args.most ps)
    (c.loop-part.invariant
    ∙ ap (behind c.loop-part.all)
    (long-inside f a s c.args.most m i ps part c.loop-part-test.true c.part-item.is more (ap (joined f a s m) (sym c.host_parts.ensures) ∙ h))))
    c.in_err-push_pieces.ensures)

pub loop-part-preserved : goal.loop-part-preserved
loop-part-preserved t c =
    let o = c.args.over.now in
    let f = interface_of o.form.now in
    let a = around_over o in
    let s = seen_inside c.args.within.now in
    let m = c.args.most - 1 in
    let ps = c.args.parts.now in
    let i = c.loop-part.part-index in
    let part = c.part-item.result in
    let now = c.loop-part.all in
    let more : c.args.most ≡ suc (c.args.most - 1) = omega (arith, c.if-most-eq0.false) in
    c.loop-part.invariant
    ∙ carried f a s c.args.most m i ps part now c.push_str.new.self c.push_printed.new.all c.push_pieces.new.all c.loop-part-test.true c.part-item.is more
    (c.in_ok-push_str.ensures.ok ∙ ap (λ l. now ++ l) c.own_text.ensures)
    c.in_ok-push_printed.ensures
    (ap (λ l. behind c.push_printed.new.all (joined f a s m l)) (sym c.host_parts.ensures) ∙ c.in_ok-push_pieces.ensures)

pub returns : goal.returns
returns t c =
    let o = c.args.over.now in
    let f = interface_of o.form.now in
    let a = around_over o in
    let s = seen_inside c.args.within.now in
    let ps = c.args.parts.now in
    let i = c.loop-part.part-index in
    c.loop-part.invariant
    ∙ ap (λ l. behind c.loop-part.all (joined f a s c.args.most l)) (drop_all i ps c.loop-part-test.false)
    ∙ ap (behind c.loop-part.all) (none-joined f a s c.args.most) ∙ behind-end c.loop-part.all
