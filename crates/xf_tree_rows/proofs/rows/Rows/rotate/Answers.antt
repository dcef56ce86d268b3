use Rattle.std.proofs.Common.{ap, ◌∙◌, length}
use Rattle.xf_tree_rows.specs.Rows.{RowList, rotated}
use Rattle.xf_tree_rows.proofs.RoomLemmas.{around_room, end-changed, rotated-front, length-rotated}
use Rattle.xf_tree_rows.proofs.rows.Rows.rotate.Goals as goal

pub returns-clause-items : goal.returns-clause-items
returns-clause-items c =
    let v = c.self.inside in
    let rows = c.args.self.now.items in
    let is = c.self.view_is ∙ c.move_room.ensures in
    ap (around_room v.start v.room) c.rotate.ensures
    ∙ end-changed v.start v.room v.items.items rows (rotated c.args.at c.args.mid c.args.end) (ap (λ (r : RowList). r.items) is) c.self.invariant (ap (λ (r : RowList). r.room_at) is ∙ c.len.ensures)
    (rotated-front c.args.at c.args.mid c.args.end rows _ c.requires.first c.requires.second c.requires.third) (length-rotated c.args.at c.args.mid c.args.end rows c.requires.first c.requires.second c.requires.third)

pub returns-clause-same : goal.returns-clause-same
returns-clause-same c = ap length (returns-clause-items c) ∙ length-rotated c.args.at c.args.mid c.args.end c.args.self.now.items c.requires.first c.requires.second c.requires.third
