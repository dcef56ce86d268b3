use Rattle.std.proofs.Common.{◌+◌, [], drop, get_or, map, sym, ap, ◌∙◌}
use Rattle.std.proofs.lemmas.List.{drop_all, drop_more}
use Rattle.std.proofs.lemmas.Result.{err_from_is_err_and}
use Rattle.xf_def_xpath.specs.declared.fault.EvalFault.TheVariants.{Long, Memory}
use Rattle.xf_def_ui.specs.Index.{Pass, pass}
use Rattle.xf_def_ui.specs.Interface.{interface_of}
use Rattle.xf_eval.proofs.Bounded.{part-long}
use Rattle.xf_eval_context.specs.Indexes.{seen_index}
use Rattle.xf_eval_context.specs.Over.{around_over}
use Rattle.xf_repeat.proofs.PassLaws.{indexes_after, pass-long, pass-more}
use Rattle.xf_repeat.proofs.passing.pass.Goals as goal

pub returns-in_err-bring_one : goal.returns-in_err-bring_one
returns-in_err-bring_one c =
    let o = c.args.over.now in
    let f = interface_of o.form.now in
    let a = around_over o in
    let added = c.args.added.now in
    let items = c.as_slice-repeat-items.result.now in
    let i = c.loop-repeat.repeat-index in
    let r = get_or items i 0 in
    let first : Pass = record { indexes = map seen_index c.args.indexes.now; restarted = [] } in
    let here : Pass = record { indexes = map seen_index c.loop-repeat.indexes; restarted = c.loop-repeat.restarted } in
    let p = err_from_is_err_and c.from_residual.result c.from_residual.ensures.1 in
    rw (p.1, p.2) (part-long Memory Long _ _ (pass f a added (map seen_index c.args.indexes.now)) c.in_err-bring_one.ensures
    (λ h. ap (indexes_after f a added first) (sym c.as_slice-repeat-items.ensures)
    ∙ sym c.loop-repeat.invariant
    ∙ ap (indexes_after f a added here) (drop_more items i 0 c.loop-repeat-test.true)
    ∙ pass-long f a added here r (drop (i + 1) items) h))

pub loop-repeat-preserved : goal.loop-repeat-preserved
loop-repeat-preserved c =
    let o = c.args.over.now in
    let f = interface_of o.form.now in
    let a = around_over o in
    let added = c.args.added.now in
    let items = c.as_slice-repeat-items.result.now in
    let i = c.loop-repeat.repeat-index in
    let r = get_or items i 0 in
    let here : Pass = record { indexes = map seen_index c.loop-repeat.indexes; restarted = c.loop-repeat.restarted } in
    sym (pass-more f a added here r (drop (i + 1) items) (map seen_index c.bring_one.new.indexes) c.bring_one.new.restarted c.in_ok-bring_one.ensures)
    ∙ sym (ap (indexes_after f a added here) (drop_more items i 0 c.loop-repeat-test.true))
    ∙ c.loop-repeat.invariant

pub returns : goal.returns
returns c =
    let o = c.args.over.now in
    let f = interface_of o.form.now in
    let a = around_over o in
    let added = c.args.added.now in
    let items = c.as_slice-repeat-items.result.now in
    let i = c.loop-repeat.repeat-index in
    let first : Pass = record { indexes = map seen_index c.args.indexes.now; restarted = [] } in
    let here : Pass = record { indexes = map seen_index c.loop-repeat.indexes; restarted = c.loop-repeat.restarted } in
    ap (indexes_after f a added first) (sym c.as_slice-repeat-items.ensures)
    ∙ sym c.loop-repeat.invariant
    ∙ ap (indexes_after f a added here) (drop_all i items c.loop-repeat-test.false)
