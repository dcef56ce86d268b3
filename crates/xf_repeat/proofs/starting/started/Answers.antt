use Rattle.std.proofs.Common.{Some, map, sym, ap, ◌∙◌}
use Rattle.std.specs.Prelude.{filter}
use Rattle.std.proofs.lemmas.Result.{err_from_is_err_and}
use Rattle.xf_def_xpath.specs.declared.fault.EvalFault.TheVariants.{Long, Memory}
use Rattle.xf_def_ui.specs.Index.{unset}
use Rattle.xf_def_ui.specs.Interface.{interface_of}
use Rattle.xf_def_ui.specs.Started.{each_takes, started}
use Rattle.xf_eval.proofs.Bounded.{part-long}
use Rattle.xf_eval_context.specs.Indexes.{seen_index}
use Rattle.xf_eval_context.specs.Over.{around_over}
use Rattle.xf_repeat.specs.declared.starting.Start.TheVariants.{Written}
use Rattle.xf_repeat.specs.Starts.{is_taken, taken_by}
use Rattle.xf_repeat.proofs.StartLaws.{filter-all, written-back}
use Rattle.xf_repeat.proofs.starting.started.Goals as goal

pub returns-in_err-take_each : goal.returns-in_err-take_each
returns-in_err-take_each c =
    let o = c.args.over.now in
    let f = interface_of o.form.now in
    let a = around_over o in
    let taken = taken_by f Written in
    let repeats = o.form.now.repeats in
    let p = err_from_is_err_and c.from_residual-in_err-take_each.result c.from_residual-in_err-take_each.ensures.1 in
    rw (p.1, p.2) (part-long Memory Long _ _ (started f a) c.in_err-take_each.ensures
    (λ h. ap (each_takes f a taken (map (λ r. unset) repeats)) (sym (filter-all repeats))
    ∙ ap (λ ix. each_takes f a taken ix (filter (is_taken f Written) repeats)) (sym (ap (map seen_index) c.deref_mut.ensures.value ∙ c.in_ok-indexes.ensures ∙ ap (map (λ r. unset)) c.as_slice.ensures))
    ∙ h))

pub returns : goal.returns
returns c =
    let o = c.args.over.now in
    let f = interface_of o.form.now in
    let a = around_over o in
    let taken = taken_by f Written in
    let repeats = o.form.now.repeats in
    ap (each_takes f a taken (map (λ r. unset) repeats)) (sym (filter-all repeats))
    ∙ ap (λ ix. each_takes f a taken ix (filter (is_taken f Written) repeats)) (sym (ap (map seen_index) c.deref_mut.ensures.value ∙ c.in_ok-indexes.ensures ∙ ap (map (λ r. unset)) c.as_slice.ensures))
    ∙ c.in_ok-take_each.ensures
    ∙ ap (λ l. Some (map seen_index l)) (sym (written-back c.take_each.new.indexes _ c.in_ok-indexes.indexes.len (c.take_each.auto.indexes ∙ c.deref_mut.ensures.len)))
