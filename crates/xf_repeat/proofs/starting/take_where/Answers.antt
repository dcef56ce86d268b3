use Rattle.std.proofs.Common.{[], ◌∷◌, Some, map, sym, ap, ◌∙◌}
use Rattle.std.specs.Prelude.{filter}
use Rattle.std.proofs.lemmas.Result.{err_from_is_err_and}
use Rattle.xf_def_xpath.specs.declared.fault.EvalFault.TheVariants.{Long, Memory}
use Rattle.xf_def_ui.specs.Index.{index_at, with_index}
use Rattle.xf_def_ui.specs.Interface.{interface_of}
use Rattle.xf_def_ui.specs.Started.{each_takes}
use Rattle.xf_eval.proofs.Bounded.{part-long}
use Rattle.xf_eval_context.specs.Indexes.{seen_index}
use Rattle.xf_eval_context.specs.Over.{around_over}
use Rattle.xf_repeat.specs.Starts.{is_taken, taken_by}
use Rattle.xf_repeat.proofs.StartLaws.{takes-alone, takes-long, takes-none}
use Rattle.xf_repeat.proofs.starting.take_where.Goals as goal

pub returns-then-not-is_taken : goal.returns-then-not-is_taken
returns-then-not-is_taken c =
    let o = c.args.over.now in
    let f = interface_of o.form.now in
    takes-none f (around_over o) (taken_by f c.args.start) (is_taken f c.args.start) c.args.repeat (map seen_index c.args.indexes.now) (sym c.is_taken.ensures ∙ c.if-not-is_taken.true)

pub returns-in_err-rows : goal.returns-in_err-rows
returns-in_err-rows c =
    let o = c.args.over.now in
    let f = interface_of o.form.now in
    let a = around_over o in
    let r = c.args.repeat in
    let ix = map seen_index c.args.indexes.now in
    let starts = is_taken f c.args.start in
    let p = err_from_is_err_and c.from_residual.result c.from_residual.ensures.1 in
    rw (p.1, p.2) (part-long Memory Long _ _ (each_takes f a (taken_by f c.args.start) ix (filter starts (r ∷ []))) c.in_err-rows.ensures
    (λ h. takes-long f a (taken_by f c.args.start) starts r ix (sym c.is_taken.ensures ∙ c.if-not-is_taken.false) h))

pub returns : goal.returns
returns c =
    let o = c.args.over.now in
    let f = interface_of o.form.now in
    let a = around_over o in
    let r = c.args.repeat in
    let ix = map seen_index c.args.indexes.now in
    let rows = c.in_ok-rows.rows in
    takes-alone f a (taken_by f c.args.start) (is_taken f c.args.start) r ix rows (sym c.is_taken.ensures ∙ c.if-not-is_taken.false) c.in_ok-rows.ensures
    ∙ ap (λ k. Some (with_index f r (index_at rows k) ix)) (sym (c.taken_by.ensures rows (sym c.in_ok-count.ensures)))
    ∙ ap (λ x. Some (with_index f r x ix)) (sym c.index_at-index.ensures)
    ∙ ap Some (sym c.put_index.ensures)
