use Rattle.std.proofs.Common.{◌≡◌, ◌-◌, suc, sym, ap, ◌∙◌, arith}
use Rattle.std.proofs.lemmas.List.{drop_all}
use Rattle.std.proofs.lemmas.Result.{err_from_is_err_and}
use Rattle.xf_def_ui.specs.Interface.{interface_of}
use Rattle.xf_eval_context.specs.Inside.{seen_inside}
use Rattle.xf_eval_context.specs.Over.{around_over}
use Rattle.xf_items.specs.Items.{behind, items_among}
use Rattle.xf_items.proofs.ItemLaws.{behind-end, behind-none-is, carried, long-choices, long-inside, long-own, none-among, none-further}
use Rattle.xf_items.proofs.LabelLaws.{adds-fault, adds-whole}
use Rattle.xf_items.proofs.items.+push_items.Goals as goal

pub returns-then-most-eq0 : goal.returns-then-most-eq0
returns-then-most-eq0 t c =
    let o = c.args.over.now in
    let f = interface_of o.form.now in
    let a = around_over o in
    let s = seen_inside c.args.within.now in
    ap (behind c.args.all.now) (none-further f a s c.args.most c.args.parts.now c.if-most-eq0.true) ∙ behind-end c.args.all.now

pub returns-in_err-push_own : goal.returns-in_err-push_own
returns-in_err-push_own t c =
    let o = c.args.over.now in
    let f = interface_of o.form.now in
    let a = around_over o in
    let s = seen_inside c.args.within.now in
    let m = c.args.most - 1 in
    let ps = c.args.parts.now in
    let i = c.loop-part.part-index in
    let part = c.part-item.result in
    let more : c.args.most ≡ suc (c.args.most - 1) = omega (arith, c.if-most-eq0.false) in
    let p = err_from_is_err_and c.from_residual.result c.from_residual.ensures.1 in
    rw (p.1, p.2) (adds-whole _ c.loop-part.all c.push_own.new.all _ _ _ (items_among c.args.most f a s ps)
    (λ h. behind-none-is c.args.all.now (items_among c.args.most f a s ps)
    (c.loop-part.invariant ∙ ap (behind c.loop-part.all) (long-own f a s c.args.most m i ps part c.loop-part-test.true c.part-item.is more h)))
    c.in_err-push_own.ensures)

pub returns-in_err-inner : goal.returns-in_err-inner
returns-in_err-inner t c =
    let o = c.args.over.now in
    let f = interface_of o.form.now in
    let a = around_over o in
    let s = seen_inside c.args.within.now in
    let m = c.args.most - 1 in
    let ps = c.args.parts.now in
    let i = c.loop-part.part-index in
    let part = c.part-item.result in
    let more : c.args.most ≡ suc (c.args.most - 1) = omega (arith, c.if-most-eq0.false) in
    let p = err_from_is_err_and c.from_residual-in_err-inner.result c.from_residual-in_err-inner.ensures.1 in
    rw (p.1, p.2) (adds-fault _ _ _ _ (items_among c.args.most f a s ps)
    (λ h. behind-none-is c.args.all.now (items_among c.args.most f a s ps)
    (c.loop-part.invariant ∙ ap (behind c.loop-part.all) (long-choices f a s c.args.most m i ps part c.loop-part-test.true c.part-item.is more h)))
    c.in_err-inner.ensures)

pub returns-in_err-push_items : goal.returns-in_err-push_items
returns-in_err-push_items t c =
    let o = c.args.over.now in
    let f = interface_of o.form.now in
    let a = around_over o in
    let s = seen_inside c.args.within.now in
    let m = c.args.most - 1 in
    let ps = c.args.parts.now in
    let i = c.loop-part.part-index in
    let part = c.part-item.result in
    let more : c.args.most ≡ suc (c.args.most - 1) = omega (arith, c.if-most-eq0.false) in
    let p = err_from_is_err_and c.from_residual-in_err-push_items.result c.from_residual-in_err-push_items.ensures.1 in
    rw (p.1, p.2) (adds-whole _ c.push_own.new.all c.push_items.new.all _ _ _ (items_among c.args.most f a s ps)
    (λ h. behind-none-is c.args.all.now (items_among c.args.most f a s ps)
    (c.loop-part.invariant
    ∙ ap (behind c.loop-part.all)
    (long-inside f a s c.args.most m i ps part (seen_inside c.in_ok-inner.inner) c.loop-part-test.true c.part-item.is more c.in_ok-inner.ensures (ap (items_among m f a (seen_inside c.in_ok-inner.inner)) (sym c.choices_parts.ensures) ∙ h))))
    c.in_err-push_items.ensures)

pub loop-part-preserved : goal.loop-part-preserved
loop-part-preserved t c =
    let o = c.args.over.now in
    let f = interface_of o.form.now in
    let a = around_over o in
    let s = seen_inside c.args.within.now in
    let m = c.args.most - 1 in
    let ps = c.args.parts.now in
    let i = c.loop-part.part-index in
    let part = c.part-item.result in
    let more : c.args.most ≡ suc (c.args.most - 1) = omega (arith, c.if-most-eq0.false) in
    c.loop-part.invariant
    ∙ carried f a s c.args.most m i ps part (seen_inside c.in_ok-inner.inner) c.loop-part.all c.push_own.new.all c.push_items.new.all c.loop-part-test.true c.part-item.is more
    c.in_ok-push_own.ensures
    c.in_ok-inner.ensures
    (ap (λ l. behind c.push_own.new.all (items_among m f a (seen_inside c.in_ok-inner.inner) l)) (sym c.choices_parts.ensures) ∙ c.in_ok-push_items.ensures)

pub returns : goal.returns
returns t c =
    let o = c.args.over.now in
    let f = interface_of o.form.now in
    let a = around_over o in
    let s = seen_inside c.args.within.now in
    let ps = c.args.parts.now in
    let i = c.loop-part.part-index in
    c.loop-part.invariant
    ∙ ap (λ l. behind c.loop-part.all (items_among c.args.most f a s l)) (drop_all i ps c.loop-part-test.false)
    ∙ ap (behind c.loop-part.all) (none-among f a s c.args.most) ∙ behind-end c.loop-part.all
