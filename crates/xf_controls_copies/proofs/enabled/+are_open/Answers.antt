use Rattle.std.proofs.Common.{◌≡◌, ◌-◌, suc, Some, map, refl, sym, ap, ◌∙◌, arith}
use Rattle.std.proofs.lemmas.Result.{err_from_is_err_and}
use Rattle.xf_def_xpath.specs.declared.fault.EvalFault.TheVariants.{Long, Memory}
use Rattle.xf_eval.proofs.Bounded.{part-long}
use Rattle.xf_def_ui.specs.Elements.{above, element_at}
use Rattle.xf_def_ui.specs.Interface.{interface_of}
use Rattle.xf_eval_context.specs.Over.{around_over}
use Rattle.xf_controls.specs.Seen.{number}
use Rattle.xf_controls_copies.specs.Made.{are_open, is_passable}
use Rattle.xf_controls_copies.proofs.EnabledLaws.{around-first, both-told, first-lost, later-lost}
use Rattle.xf_controls_copies.proofs.enabled.+are_open.Goals as goal

pub returns-in_err-own : goal.returns-in_err-own
returns-in_err-own g t c =
    let o = c.args.state.now.over in
    let f = interface_of o.form.now in
    let a = around_over o in
    let marks = g.M.NodeMarks.marks_of c.args.state.now.marks.now in
    let rows = map number c.args.rows.now in
    let k = c.args.most - 1 in
    let n = c.in-Some.element in
    let deep : c.args.most ≡ suc k = omega (arith, c.if-most-eq0.false) in
    let p = err_from_is_err_and c.from_residual.result c.from_residual.ensures.1 in
    rw (p.1, p.2) (part-long Memory Long _ _ (are_open f a marks rows (above c.args.most f c.args.parent)) c.in_err-own.ensures
    (λ h. around-first f a marks rows c.args.most k n c.args.parent (element_at f n).parent deep c.in-Some.is refl
    ∙ first-lost f a marks rows (is_passable f a marks rows n) (are_open f a marks rows (above k f (element_at f n).parent)) h))

pub returns-in_err-outer : goal.returns-in_err-outer
returns-in_err-outer g t c =
    let o = c.args.state.now.over in
    let f = interface_of o.form.now in
    let a = around_over o in
    let marks = g.M.NodeMarks.marks_of c.args.state.now.marks.now in
    let rows = map number c.args.rows.now in
    let k = c.args.most - 1 in
    let n = c.in-Some.element in
    let deep : c.args.most ≡ suc k = omega (arith, c.if-most-eq0.false) in
    let p = err_from_is_err_and c.from_residual-in_err-outer.result c.from_residual-in_err-outer.ensures.1 in
    rw (p.1, p.2) (part-long Memory Long _ _ (are_open f a marks rows (above c.args.most f c.args.parent)) c.in_err-outer.ensures
    (λ h. around-first f a marks rows c.args.most k n c.args.parent c.parent_of.result deep c.in-Some.is c.parent_of.ensures
    ∙ later-lost f a marks rows (is_passable f a marks rows n) (are_open f a marks rows (above k f c.parent_of.result)) h))

pub returns : goal.returns
returns g t c =
    let o = c.args.state.now.over in
    let f = interface_of o.form.now in
    let a = around_over o in
    let marks = g.M.NodeMarks.marks_of c.args.state.now.marks.now in
    let rows = map number c.args.rows.now in
    let k = c.args.most - 1 in
    let n = c.in-Some.element in
    let deep : c.args.most ≡ suc k = omega (arith, c.if-most-eq0.false) in
    around-first f a marks rows c.args.most k n c.args.parent c.parent_of.result deep c.in-Some.is c.parent_of.ensures
    ∙ both-told f a marks rows (is_passable f a marks rows n) (are_open f a marks rows (above k f c.parent_of.result)) c.in_ok-own.own c.in_ok-outer.outer c.in_ok-own.ensures c.in_ok-outer.ensures
    ∙ sym (ap Some c.both.ensures)
