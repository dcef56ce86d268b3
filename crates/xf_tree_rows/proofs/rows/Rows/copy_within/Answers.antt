use Rattle.std.proofs.Common.{ap, ◌∙◌, arith, length}
use Rattle.std.specs.List.{copy_within}
use Rattle.xf_tree_rows.specs.Rows.{RowList}
use Rattle.xf_tree_rows.proofs.RoomLemmas.{around_room, end-changed, copied-front, length-copied}
use Rattle.xf_tree_rows.proofs.rows.Rows.copy_within.Goals as goal

pub returns-clause-items : goal.returns-clause-items
returns-clause-items c =
    let v = c.self.inside in
    let rows = c.args.self.now.items in
    let is = c.self.view_is ∙ c.move_room.ensures in
    ap (around_room v.start v.room) c.copy_within.ensures.items
    ∙ end-changed v.start v.room v.items.items rows (λ l. copy_within l c.args.from c.args.end c.args.to) (ap (λ (r : RowList). r.items) is) c.self.invariant (ap (λ (r : RowList). r.room_at) is ∙ c.len.ensures)
    (copied-front c.args.from c.args.end c.args.to rows _ c.requires.order c.requires.first c.requires.second) (length-copied c.args.from c.args.end c.args.to rows (omega (arith, c.requires.order, c.requires.first, c.requires.second)) c.requires.second)

pub returns-clause-same : goal.returns-clause-same
returns-clause-same c = ap length (returns-clause-items c) ∙ length-copied c.args.from c.args.end c.args.to c.args.self.now.items (omega (arith, c.requires.order, c.requires.first, c.requires.second)) c.requires.second
