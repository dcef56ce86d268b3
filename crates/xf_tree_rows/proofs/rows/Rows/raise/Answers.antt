use Rattle.std.proofs.Common.{length, ap, ◌∙◌}
use Rattle.xf_tree_rows.specs.Rows.{RowList, raised, raised_part}
use Rattle.xf_tree_rows.proofs.RoomLemmas.{around_room, end-changed, mapped-front, length-mapped}
use Rattle.xf_tree_rows.proofs.rows.Rows.raise.Goals as goal

pub returns-clause-items : goal.returns-clause-items
returns-clause-items c =
    let v = c.self.inside in
    let rows = c.args.self.now.items in
    let is = c.self.view_is ∙ c.move_room.ensures in
    ap (around_room v.start v.room) c.raise.ensures
    ∙ end-changed v.start v.room v.items.items rows (raised_part c.args.from c.args.to c.args.by) (ap (λ (r : RowList). r.items) is) c.self.invariant (ap (λ (r : RowList). r.room_at) is ∙ c.len.ensures)
    (mapped-front (raised c.args.by) c.args.from c.args.to rows _ c.requires.first c.requires.second) (length-mapped (raised c.args.by) c.args.from c.args.to rows c.requires.first c.requires.second)

pub returns-clause-same : goal.returns-clause-same
returns-clause-same c = ap length (returns-clause-items c) ∙ length-mapped (raised c.args.by) c.args.from c.args.to c.args.self.now.items c.requires.first c.requires.second
