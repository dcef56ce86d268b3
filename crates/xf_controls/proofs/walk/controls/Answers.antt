use Rattle.std.proofs.Common.{map, sym, ap, ◌∙◌}
use Rattle.std.proofs.lemmas.Result.{err_from_is_err_and}
use Rattle.xf_def_xpath.specs.declared.fault.EvalFault.TheVariants.{Long, Memory}
use Rattle.xf_eval.proofs.Bounded.{part-long}
use Rattle.xf_def_ui.specs.Copies.{copies}
use Rattle.xf_def_ui.specs.Interface.{interface_of}
use Rattle.xf_controls.specs.Seen.{seen_copy, seen_handed}
use Rattle.xf_controls.specs.Surrounded.{around_in}
use Rattle.xf_controls.proofs.KnownLaws.{reached-first}
use Rattle.xf_controls.proofs.WholeLaws.{begun-so}
use Rattle.xf_controls.proofs.walk.controls.Goals as goal

pub returns-in_err-push_copies : goal.returns-in_err-push_copies
returns-in_err-push_copies g c = λ cases indexes.
    let form = c.args.form.now in
    let given = g.A.Around.given c.args.around.now in
    let nodes = c.args.forest.now.forest.nodes in
    let marks = g.M.NodeMarks.marks_of c.args.marks.now in
    let p = err_from_is_err_and c.from_residual.result c.from_residual.ensures.1 in
    rw (p.1, p.2) (part-long Memory Long _ _ (copies (interface_of form) (around_in given form.tables nodes) marks cases indexes) c.in_err-push_copies.ensures
    (λ lost. sym (begun-so form given nodes marks cases indexes c.len-most.result (seen_handed c.nothing_around.result) (map seen_copy c.new-copies.result) c.requires.plain c.requires.quiet c.len-most.ensures c.nothing_around.ensures.value
    (ap (map seen_copy) c.new-copies.ensures)) ∙ lost))

pub returns : goal.returns
returns g c = λ cases indexes.
    let form = c.args.form.now in
    let given = g.A.Around.given c.args.around.now in
    let nodes = c.args.forest.now.forest.nodes in
    let marks = g.M.NodeMarks.marks_of c.args.marks.now in
    sym (begun-so form given nodes marks cases indexes c.len-most.result (seen_handed c.nothing_around.result) (map seen_copy c.new-copies.result) c.requires.plain c.requires.quiet c.len-most.ensures c.nothing_around.ensures.value
    (ap (map seen_copy) c.new-copies.ensures)) ∙ c.in_ok-push_copies.ensures

pub push_copies-requires-clause-reached : goal.push_copies-requires-clause-reached
push_copies-requires-clause-reached g c =
    let form = c.args.form.now in
    let a = around_in (g.A.Around.given c.args.around.now) form.tables c.args.forest.now.forest.nodes in
    reached-first form a (g.M.NodeMarks.marks_of c.args.marks.now) (seen_handed c.nothing_around.result) c.len-most.result c.requires.plain c.len-most.ensures c.nothing_around.ensures.value
