use Rattle.std.proofs.Common.{false, Some, map, sym, ap, ◌∙◌}
use Rattle.std.proofs.lemmas.Result.{err_from_is_err_and}
use Rattle.xf_def_xpath.specs.declared.fault.EvalFault.TheVariants.{Long, Memory}
use Rattle.xf_def_ui.specs.Index.{index_at, with_index}
use Rattle.xf_def_ui.specs.Interface.{interface_of}
use Rattle.xf_def_ui.specs.Started.{index_set, restarted}
use Rattle.xf_eval.proofs.Bounded.{gives-same, part-long}
use Rattle.xf_eval_context.specs.Indexes.{seen_index}
use Rattle.xf_eval_context.specs.Over.{around_over}
use Rattle.xf_repeat.proofs.StartLaws.{set-found, set-long}
use Rattle.xf_repeat.proofs.starting.set_index.Goals as goal

pub returns-in_err-rows : goal.returns-in_err-rows
returns-in_err-rows c =
    let o = c.args.over.now in
    let f = interface_of o.form.now in
    let a = around_over o in
    let ix = map seen_index c.args.indexes.now in
    let p = err_from_is_err_and c.from_residual.result c.from_residual.ensures.1 in
    rw (p.1, p.2) (part-long Memory Long _ _ (index_set f a c.args.repeat c.args.number ix) c.in_err-rows.ensures (set-long f a c.args.repeat c.args.number ix))

pub returns-then-is_same_node : goal.returns-then-is_same_node
returns-then-is_same_node c =
    let o = c.args.over.now in
    let f = interface_of o.form.now in
    let a = around_over o in
    let r = c.args.repeat in
    let n = c.args.number in
    let ix = map seen_index c.args.indexes.now in
    let rows = c.in_ok-rows.rows in
    let old = seen_index c.index_of-old.result in
    let new = seen_index c.index_at-new.result in
    set-found f a r n ix rows old new c.is_same_node.result c.in_ok-rows.ensures c.index_of-old.ensures
    (c.index_at-new.ensures ∙ ap (index_at rows) (c.held.ensures rows (sym c.in_ok-count.ensures)))
    c.is_same_node.ensures
    ∙ ap (λ t. restarted f a r t (with_index f r new ix)) c.if-is_same_node.true
    ∙ ap Some (sym c.put_index.ensures)

pub returns : goal.returns
returns c =
    let o = c.args.over.now in
    let f = interface_of o.form.now in
    let a = around_over o in
    let r = c.args.repeat in
    let n = c.args.number in
    let ix = map seen_index c.args.indexes.now in
    let rows = c.in_ok-rows.rows in
    let old = seen_index c.index_of-old.result in
    let new = seen_index c.index_at-new.result in
    gives-same Memory Long _ c.take_each.result _ _
    (sym (set-found f a r n ix rows old new c.is_same_node.result c.in_ok-rows.ensures c.index_of-old.ensures
    (c.index_at-new.ensures ∙ ap (index_at rows) (c.held.ensures rows (sym c.in_ok-count.ensures)))
    c.is_same_node.ensures
    ∙ ap (λ t. restarted f a r t (with_index f r new ix)) c.if-is_same_node.false
    ∙ ap (restarted f a r false) (sym c.put_index.ensures)))
    c.take_each.ensures
