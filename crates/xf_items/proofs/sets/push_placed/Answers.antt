use Rattle.std.proofs.Common.{sym, ap, ◌∙◌}
use Rattle.std.proofs.lemmas.List.{drop_all}
use Rattle.std.proofs.lemmas.Result.{err_from_is_err_and}
use Rattle.xf_def_ui.specs.Interface.{interface_of}
use Rattle.xf_def_ui.specs.Items.{item_in}
use Rattle.xf_eval_context.specs.Inside.{seen_inside}
use Rattle.xf_eval_context.specs.Over.{around_over}
use Rattle.xf_items.specs.Items.{alone, behind, placed_items}
use Rattle.xf_items.proofs.ItemLaws.{behind-end, behind-none-is}
use Rattle.xf_items.proofs.LabelLaws.{adds-whole, some-same}
use Rattle.xf_items.proofs.SetLaws.{carried-one, long-one, numbers}
use Rattle.xf_items.proofs.sets.push_placed.Goals as goal

pub loop-node-init : goal.loop-node-init
loop-node-init c =
    let o = c.args.over.now in
    let f = interface_of o.form.now in
    let a = around_over o in
    let s = seen_inside c.args.within.now in
    ap (λ ns. behind c.args.all.now (placed_items f a s c.args.element c.args.set.now ns)) (sym c.as_slice-nodes.ensures)

pub returns-in_err-push_item : goal.returns-in_err-push_item
returns-in_err-push_item c =
    let o = c.args.over.now in
    let f = interface_of o.form.now in
    let a = around_over o in
    let s = seen_inside c.args.within.now in
    let set = c.args.set.now in
    let n = c.args.element in
    let whole = placed_items f a s n set set in
    let p = err_from_is_err_and c.from_residual-in_err-push_item.result c.from_residual-in_err-push_item.ensures.1 in
    rw (p.1, p.2) (adds-whole _ c.loop-node.all c.push_item.new.all _ _ _ whole
    (λ h. behind-none-is c.args.all.now whole
    (c.loop-node.invariant
    ∙ ap (behind c.loop-node.all)
    (long-one f a s n set c.as_slice-nodes.result.now c.loop-node.node-index c.loop-node-test.true
    (ap (λ t. alone (item_in f a n t)) (some-same c.in_ok-inner.ensures) ∙ h))))
    c.in_err-push_item.ensures)

pub loop-node-preserved : goal.loop-node-preserved
loop-node-preserved c =
    let o = c.args.over.now in
    let f = interface_of o.form.now in
    let a = around_over o in
    let s = seen_inside c.args.within.now in
    let set = c.args.set.now in
    let n = c.args.element in
    c.loop-node.invariant
    ∙ carried-one f a s n set c.as_slice-nodes.result.now c.loop-node.node-index c.loop-node.all c.push_item.new.all c.loop-node-test.true
    (ap (λ t. behind c.loop-node.all (alone (item_in f a n t))) (some-same c.in_ok-inner.ensures) ∙ c.in_ok-push_item.ensures)

pub returns : goal.returns
returns c =
    let o = c.args.over.now in
    let f = interface_of o.form.now in
    let a = around_over o in
    let s = seen_inside c.args.within.now in
    let set = c.args.set.now in
    let n = c.args.element in
    c.loop-node.invariant
    ∙ ap (λ l. behind c.loop-node.all (placed_items f a s n set (numbers l))) (drop_all c.loop-node.node-index c.as_slice-nodes.result.now c.loop-node-test.false)
    ∙ behind-end c.loop-node.all
