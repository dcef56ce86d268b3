use Rattle.std.proofs.Common.{◌+◌, drop, get_or, map, sym, ap, ◌∙◌}
use Rattle.std.specs.Prelude.{filter}
use Rattle.std.proofs.lemmas.List.{drop_all, drop_more}
use Rattle.std.proofs.lemmas.Result.{err_from_is_err_and}
use Rattle.xf_def_xpath.specs.declared.fault.EvalFault.TheVariants.{Long, Memory}
use Rattle.xf_def_xpath.specs.Setting.{◌>>=◌}
use Rattle.xf_def_ui.specs.Interface.{interface_of}
use Rattle.xf_def_ui.specs.Started.{each_takes}
use Rattle.xf_eval.proofs.Bounded.{part-long}
use Rattle.xf_eval_context.specs.Indexes.{seen_index}
use Rattle.xf_eval_context.specs.Over.{around_over}
use Rattle.xf_repeat.specs.Starts.{is_taken, taken_by}
use Rattle.xf_repeat.proofs.StartLaws.{takes-more}
use Rattle.xf_repeat.proofs.starting.take_each.Goals as goal

pub returns-in_err-take_where : goal.returns-in_err-take_where
returns-in_err-take_where c =
    let o = c.args.over.now in
    let f = interface_of o.form.now in
    let a = around_over o in
    let taken = taken_by f c.args.start in
    let starts = is_taken f c.args.start in
    let items = c.as_slice-repeat-items.result.now in
    let i = c.loop-repeat.repeat-index in
    let r = get_or items i 0 in
    let first = map seen_index c.args.indexes.now in
    let here = map seen_index c.loop-repeat.indexes in
    let p = err_from_is_err_and c.from_residual.result c.from_residual.ensures.1 in
    rw (p.1, p.2) (part-long Memory Long _ _ (each_takes f a taken first (filter starts o.form.now.repeats)) c.in_err-take_where.ensures
    (λ h. ap (λ rs. each_takes f a taken first (filter starts rs)) (sym c.as_slice-repeat-items.ensures)
    ∙ sym c.loop-repeat.invariant
    ∙ ap (λ rs. each_takes f a taken here (filter starts rs)) (drop_more items i 0 c.loop-repeat-test.true)
    ∙ takes-more f a taken starts r (drop (i + 1) items) here
    ∙ ap (λ m. m >>= λ now. each_takes f a taken now (filter starts (drop (i + 1) items))) h))

pub loop-repeat-preserved : goal.loop-repeat-preserved
loop-repeat-preserved c =
    let o = c.args.over.now in
    let f = interface_of o.form.now in
    let a = around_over o in
    let taken = taken_by f c.args.start in
    let starts = is_taken f c.args.start in
    let items = c.as_slice-repeat-items.result.now in
    let i = c.loop-repeat.repeat-index in
    let r = get_or items i 0 in
    let here = map seen_index c.loop-repeat.indexes in
    sym (ap (λ rs. each_takes f a taken here (filter starts rs)) (drop_more items i 0 c.loop-repeat-test.true)
    ∙ takes-more f a taken starts r (drop (i + 1) items) here
    ∙ ap (λ m. m >>= λ now. each_takes f a taken now (filter starts (drop (i + 1) items))) c.in_ok-take_where.ensures)
    ∙ c.loop-repeat.invariant

pub returns : goal.returns
returns c =
    let o = c.args.over.now in
    let f = interface_of o.form.now in
    let a = around_over o in
    let taken = taken_by f c.args.start in
    let starts = is_taken f c.args.start in
    let items = c.as_slice-repeat-items.result.now in
    let i = c.loop-repeat.repeat-index in
    ap (λ rs. each_takes f a taken (map seen_index c.args.indexes.now) (filter starts rs)) (sym c.as_slice-repeat-items.ensures)
    ∙ sym c.loop-repeat.invariant
    ∙ ap (λ rs. each_takes f a taken (map seen_index c.loop-repeat.indexes) (filter starts rs)) (drop_all i items c.loop-repeat-test.false)
