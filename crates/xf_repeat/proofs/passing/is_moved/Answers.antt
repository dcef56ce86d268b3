use Rattle.std.proofs.Common.{Some, not, map, sym, ap, ◌∙◌}
use Rattle.std.specs.Prelude.{option_map}
use Rattle.std.proofs.lemmas.Result.{err_from_is_err_and}
use Rattle.xf_def_xpath.specs.declared.fault.EvalFault.TheVariants.{Long, Memory}
use Rattle.xf_def_ui.specs.Index.{pass, same_indexes}
use Rattle.xf_def_ui.specs.Interface.{interface_of}
use Rattle.xf_eval.proofs.Bounded.{part-long}
use Rattle.xf_eval_context.specs.Indexes.{seen_index}
use Rattle.xf_eval_context.specs.Over.{around_over}
use Rattle.xf_repeat.specs.Passes.{moved_from}
use Rattle.xf_repeat.proofs.passing.is_moved.Goals as goal

pub returns-in_err-pass : goal.returns-in_err-pass
returns-in_err-pass c =
    let o = c.args.over.now in
    let ix = map seen_index c.args.indexes.now in
    let p = err_from_is_err_and c.from_residual-in_err-pass.result c.from_residual-in_err-pass.ensures.1 in
    rw (p.1, p.2) (part-long Memory Long _ _ (option_map (moved_from ix) (pass (interface_of o.form.now) (around_over o) c.args.added.now ix)) c.in_err-pass.ensures
    (λ h. ap (option_map (moved_from ix)) h))

pub returns : goal.returns
returns c =
    let ix = map seen_index c.args.indexes.now in
    let after = map seen_index c.pass.new.indexes in
    ap (option_map (moved_from ix)) c.in_ok-pass.ensures
    ∙ ap (λ b. Some (after, not b)) (sym (c.are_same.ensures ∙ ap (λ l. same_indexes (map seen_index l) after) (c.deref.ensures.value ∙ c.in_ok-before.ensures)))
