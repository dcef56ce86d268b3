use Rattle.std.proofs.Common.{map, option_map}
use Rattle.std.proofs.lemmas.Result.{err_from_is_err_and}
use Rattle.xf_def_xpath.specs.declared.fault.EvalFault.TheVariants.{Long, Memory}
use Rattle.xf_eval.proofs.Bounded.{gives-same, part-long}
use Rattle.xf_def_ui.specs.Copies.{copy_of}
use Rattle.xf_def_ui.specs.Interface.{interface_of}
use Rattle.xf_eval_context.specs.Inside.{seen_context}
use Rattle.xf_eval_context.specs.Over.{around_over}
use Rattle.xf_controls.specs.Seen.{number, seen_copy}
use Rattle.xf_controls_copies.specs.Made.{copy_in}
use Rattle.xf_controls_copies.proofs.CopyLaws.{context-lost, copy-is, node-lost}
use Rattle.xf_controls_copies.proofs.copy.copy_of.Goals as goal

pub returns-in_err-situation : goal.returns-in_err-situation
returns-in_err-situation g c =
    let o = c.args.state.now.over in
    let f = interface_of o.form.now in
    let a = around_over o in
    let marks = g.M.NodeMarks.marks_of c.args.state.now.marks.now in
    let cases = c.args.state.now.cases.now in
    let rows = map number c.args.rows.now in
    let n = c.args.element in
    let p = err_from_is_err_and c.from_residual.result c.from_residual.ensures.1 in
    rw (p.1, p.2) (part-long Memory Long _ _ (copy_of f a marks cases rows n) c.in_err-situation.ensures (context-lost f a marks cases rows n))

pub returns-in_err-node : goal.returns-in_err-node
returns-in_err-node g c =
    let o = c.args.state.now.over in
    let f = interface_of o.form.now in
    let a = around_over o in
    let marks = g.M.NodeMarks.marks_of c.args.state.now.marks.now in
    let cases = c.args.state.now.cases.now in
    let rows = map number c.args.rows.now in
    let n = c.args.element in
    let p = err_from_is_err_and c.from_residual-in_err-node.result c.from_residual-in_err-node.ensures.1 in
    rw (p.1, p.2) (part-long Memory Long _ _ (copy_of f a marks cases rows n) c.in_err-node.ensures
    (node-lost f a marks cases rows n (seen_context c.in_ok-situation.situation) c.in_ok-situation.ensures))

pub returns : goal.returns
returns g c =
    let o = c.args.state.now.over in
    let f = interface_of o.form.now in
    let a = around_over o in
    let marks = g.M.NodeMarks.marks_of c.args.state.now.marks.now in
    let cases = c.args.state.now.cases.now in
    let rows = map number c.args.rows.now in
    let n = c.args.element in
    let here = seen_context c.in_ok-situation.situation in
    let node = option_map number c.in_ok-node.node in
    gives-same Memory Long seen_copy c.copy_with.result (copy_in f a marks cases rows n here node) (copy_of f a marks cases rows n)
    (copy-is f a marks cases rows n here node c.in_ok-situation.ensures c.in_ok-node.ensures) c.copy_with.ensures
