use Rattle.std.proofs.Common.{◌≡◌, ◌&&◌, Some, map, sym, ap, ◌∙◌}
use Rattle.std.proofs.lemmas.Result.{err_from_is_err_and}
use Rattle.xf_def_xpath.specs.declared.fault.EvalFault.TheVariants.{Long, Memory}
use Rattle.xf_eval.proofs.Bounded.{part-long}
use Rattle.xf_def_ui.specs.Copies.{is_enabled}
use Rattle.xf_def_ui.specs.Elements.{above, ancestors}
use Rattle.xf_def_ui.specs.Interface.{interface_of}
use Rattle.xf_eval_context.specs.Over.{around_over}
use Rattle.xf_controls.specs.Seen.{number}
use Rattle.xf_controls_copies.specs.Made.{are_open}
use Rattle.xf_controls_copies.proofs.EnabledLaws.{ancestors-are, around-lost, enabled-so, own-lost}
use Rattle.xf_controls_copies.proofs.enabled.is_enabled.Goals as goal

pub returns-in_err-own : goal.returns-in_err-own
returns-in_err-own g c =
    let o = c.args.state.now.over in
    let f = interface_of o.form.now in
    let a = around_over o in
    let marks = g.M.NodeMarks.marks_of c.args.state.now.marks.now in
    let cases = c.args.state.now.cases.now in
    let rows = map number c.args.rows.now in
    let n = c.args.element in
    let p = err_from_is_err_and c.from_residual.result c.from_residual.ensures.1 in
    rw (p.1, p.2) (part-long Memory Long _ _ (is_enabled f a marks cases rows n) c.in_err-own.ensures (own-lost f a marks rows cases n))

pub returns-in_err-around : goal.returns-in_err-around
returns-in_err-around g c =
    let o = c.args.state.now.over in
    let f = interface_of o.form.now in
    let a = around_over o in
    let marks = g.M.NodeMarks.marks_of c.args.state.now.marks.now in
    let cases = c.args.state.now.cases.now in
    let rows = map number c.args.rows.now in
    let n = c.args.element in
    let all : above c.len.result f c.parent_of.result ≡ ancestors f n = ancestors-are o.form.now n c.len.result c.parent_of.result c.len.ensures c.parent_of.ensures in
    let p = err_from_is_err_and c.from_residual-in_err-around.result c.from_residual-in_err-around.ensures.1 in
    rw (p.1, p.2) (part-long Memory Long _ _ (is_enabled f a marks cases rows n) c.in_err-around.ensures
    (λ h. around-lost f a marks rows cases n c.in_ok-own.own c.in_ok-own.ensures (ap (are_open f a marks rows) (sym all) ∙ h)))

pub returns : goal.returns
returns g c =
    let o = c.args.state.now.over in
    let f = interface_of o.form.now in
    let a = around_over o in
    let marks = g.M.NodeMarks.marks_of c.args.state.now.marks.now in
    let cases = c.args.state.now.cases.now in
    let rows = map number c.args.rows.now in
    let n = c.args.element in
    let own = c.in_ok-own.own in
    let around = c.in_ok-around.around in
    let all : above c.len.result f c.parent_of.result ≡ ancestors f n = ancestors-are o.form.now n c.len.result c.parent_of.result c.len.ensures c.parent_of.ensures in
    enabled-so f a marks rows cases n own around c.in_ok-own.ensures (ap (are_open f a marks rows) (sym all) ∙ c.in_ok-around.ensures)
    ∙ sym (ap Some (c.both.ensures ∙ ap (λ b. b && c.is_in_selected.result) c.both-all.ensures ∙ ap (λ b. (own && around) && b) c.is_in_selected.ensures))
