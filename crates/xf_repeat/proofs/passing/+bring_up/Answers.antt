use Rattle.std.proofs.Common.{◌≡◌, ◌-◌, suc, map, ap, arith}
use Rattle.std.proofs.lemmas.Result.{err_from_is_err_and}
use Rattle.xf_def_ui.specs.Index.{brought_up}
use Rattle.xf_def_ui.specs.Interface.{interface_of}
use Rattle.xf_eval_context.specs.Indexes.{seen_index}
use Rattle.xf_eval_context.specs.Over.{around_over}
use Rattle.xf_repeat.proofs.UpLaws.{up-again, up-given, up-still, up-stopped}
use Rattle.xf_repeat.proofs.passing.+bring_up.Goals as goal

pub returns-then-most-eq0 : goal.returns-then-most-eq0
returns-then-most-eq0 t c =
    let o = c.args.over.now in
    ap (λ k. brought_up k (interface_of o.form.now) (around_over o) c.args.added.now (map seen_index c.args.indexes.now)) c.if-most-eq0.true

pub returns-in_err-is_moved : goal.returns-in_err-is_moved
returns-in_err-is_moved t c =
    let o = c.args.over.now in
    let deep : c.args.most ≡ suc (c.args.most - 1) = omega (arith, c.if-most-eq0.false) in
    let p = err_from_is_err_and c.from_residual.result c.from_residual.ensures.1 in
    rw (p.1, p.2) (up-stopped (interface_of o.form.now) (around_over o) c.args.added.now c.args.most (c.args.most - 1) deep (map seen_index c.args.indexes.now) _ (map seen_index c.is_moved.new.indexes)
    c.in_err-is_moved.ensures)

pub returns-then-not-branch : goal.returns-then-not-branch
returns-then-not-branch t c =
    let o = c.args.over.now in
    let deep : c.args.most ≡ suc (c.args.most - 1) = omega (arith, c.if-most-eq0.false) in
    up-still (interface_of o.form.now) (around_over o) c.args.added.now c.args.most (c.args.most - 1) deep (map seen_index c.args.indexes.now) c.in_ok-is_moved.field-0 (map seen_index c.is_moved.new.indexes)
    c.in_ok-is_moved.ensures c.if-not-branch.true

pub returns : goal.returns
returns t c =
    let o = c.args.over.now in
    let deep : c.args.most ≡ suc (c.args.most - 1) = omega (arith, c.if-most-eq0.false) in
    up-given c.bring_up.result (map seen_index c.bring_up.new.indexes) _ _
    (up-again (interface_of o.form.now) (around_over o) c.args.added.now c.args.most (c.args.most - 1) deep (map seen_index c.args.indexes.now) c.in_ok-is_moved.field-0 (map seen_index c.is_moved.new.indexes)
    c.in_ok-is_moved.ensures c.if-not-branch.false)
    c.bring_up.ensures
