use Rattle.std.proofs.Common.{map, ap, ◌∙◌}
use Rattle.std.proofs.lemmas.Result.{err_from_is_err_and}
use Rattle.xf_def_xpath.specs.declared.fault.EvalFault.TheVariants.{Long, Memory}
use Rattle.xf_def_ui.specs.Index.{Pass, with_index}
use Rattle.xf_def_ui.specs.Interface.{interface_of}
use Rattle.xf_eval.proofs.Bounded.{part-long}
use Rattle.xf_eval_context.specs.Indexes.{seen_index}
use Rattle.xf_eval_context.specs.Over.{around_over}
use Rattle.xf_repeat.specs.Passes.{stepped}
use Rattle.xf_repeat.proofs.PassLaws.{step-long, step-taken}
use Rattle.xf_repeat.proofs.passing.bring_one.Goals as goal

pub returns-in_err-rows : goal.returns-in_err-rows
returns-in_err-rows c =
    let o = c.args.over.now in
    let f = interface_of o.form.now in
    let a = around_over o in
    let s : Pass = record { indexes = map seen_index c.args.indexes.now; restarted = c.args.restarted.now } in
    let p = err_from_is_err_and c.from_residual.result c.from_residual.ensures.1 in
    rw (p.1, p.2) (part-long Memory Long _ _ (stepped f a c.args.added.now c.args.repeat s) c.in_err-rows.ensures (step-long f a c.args.added.now s c.args.repeat))

pub returns : goal.returns
returns c =
    let o = c.args.over.now in
    let f = interface_of o.form.now in
    let a = around_over o in
    let s : Pass = record { indexes = map seen_index c.args.indexes.now; restarted = c.args.restarted.now } in
    let rows = c.in_ok-rows.rows in
    step-taken f a c.args.added.now s c.args.repeat rows c.begins_anew.result (seen_index c.index_of.result) c.ruled-index.result
    (map seen_index c.put_index.new.indexes) c.note.new.restarted
    c.in_ok-rows.ensures c.begins_anew.ensures c.index_of.ensures c.ruled-index.ensures
    (c.put_index.ensures ∙ ap (λ x. with_index f c.args.repeat x s.indexes) c.index_at.ensures)
    c.in_ok-note.ensures
