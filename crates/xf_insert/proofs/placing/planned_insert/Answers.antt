use Rattle.std.proofs.Common.{map, sym, ap, ◌∙◌}
use Rattle.xf_def_machine.specs.Tables.{insert_by}
use Rattle.xf_actions.specs.Seen.{place_of}
use Rattle.xf_insert.specs.Closed.{closed_by}
use Rattle.xf_insert.proofs.ClosedLaws.{planned-all, planned-none}
use Rattle.xf_insert.proofs.placing.planned_insert.Goals as goal

pub returns-then-is_first_closed : goal.returns-then-is_first_closed
returns-then-is_first_closed g c =
    let nodes = c.args.planning.now.forest.now.forest.nodes in
    let closed = closed_by (g.M.NodeMarks.marks_of c.args.planning.now.marks.now) nodes in
    let a = c.args.asked.now in
    ap (map place_of) c.new.ensures
    ∙ planned-none closed nodes (insert_by c.args.work.now) a.context.number a.set.now a.origin.now a.at (map place_of c.as_slice.result.now)
    (ap (map place_of) c.as_slice.ensures ∙ c.in_ok-places.ensures) (sym c.is_first_closed.ensures ∙ c.if-is_first_closed.true)

pub returns : goal.returns
returns g c =
    let nodes = c.args.planning.now.forest.now.forest.nodes in
    let closed = closed_by (g.M.NodeMarks.marks_of c.args.planning.now.marks.now) nodes in
    let a = c.args.asked.now in
    sym (ap (map place_of) c.as_slice.ensures)
    ∙ planned-all closed nodes (insert_by c.args.work.now) a.context.number a.set.now a.origin.now a.at (map place_of c.as_slice.result.now)
    (ap (map place_of) c.as_slice.ensures ∙ c.in_ok-places.ensures) (sym c.is_first_closed.ensures ∙ c.if-is_first_closed.false)
