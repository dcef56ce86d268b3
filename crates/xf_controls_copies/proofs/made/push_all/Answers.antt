use Rattle.std.proofs.Common.{[], map, sym, ◌∙◌}
use Rattle.xf_def_ui.specs.Interface.{interface_of}
use Rattle.xf_eval_context.specs.Over.{around_over}
use Rattle.xf_controls.specs.Seen.{seen_copy}
use Rattle.xf_controls_copies.specs.Made.{copies_at}
use Rattle.xf_controls_copies.specs.Seen.{seen_handed}
use Rattle.xf_controls_copies.specs.Walk.{copies_from}
use Rattle.xf_controls_copies.proofs.PutLaws.{puts-same}
use Rattle.xf_controls_copies.proofs.WholeLaws.{copies-are}
use Rattle.xf_controls_copies.proofs.made.push_all.Goals as goal

pub returns-then-are_parents : goal.returns-then-are_parents
returns-then-are_parents g c =
    let o = c.args.state.now.over in
    let f = interface_of o.form.now in
    let a = around_over o in
    let marks = g.M.NodeMarks.marks_of c.args.state.now.marks.now in
    let cases = c.args.state.now.cases.now in
    let h = seen_handed c.nothing_around.result in
    puts-same c.push_below.result (map seen_copy c.args.all.now) (map seen_copy c.push_below.new.all) (copies_from c.args.most f a marks cases h 0) (copies_at c.args.most f a marks cases [] 0)
    (copies-are f a marks cases c.args.most h (sym c.are_parents.ensures ∙ c.if-are_parents.true) c.requires.whole c.nothing_around.ensures) c.push_below.ensures
