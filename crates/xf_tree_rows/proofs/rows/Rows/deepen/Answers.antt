use Rattle.std.proofs.Common.{◌+◌, ◌-◌, ◌<◌, ◌^◌, length, ap, ◌∙◌, subst, arith}
use Rattle.std.specs.List.{All}
use Rattle.xf_tree_rows.specs.declared.rows.Row.{Row}
use Rattle.xf_tree_rows.specs.Rows.{RowList, deepened, deepened_part}
use Rattle.xf_tree_rows.proofs.RoomLemmas.{around_room, end-changed, mapped-front, length-mapped, part-shown}
use Rattle.xf_tree_rows.proofs.rows.Rows.deepen.Goals as goal

pub deepen-requires-clause-fits : goal.deepen-requires-clause-fits
deepen-requires-clause-fits c =
    let v = c.self.inside in
    let is = c.self.view_is ∙ c.move_room.ensures in
    subst (λ l. All (λ (r : Row). r.depth + c.args.by < 2 ^ 32) l)
    (part-shown v.start v.room c.args.from (c.args.to - c.args.from) v.items.items c.args.self.now.items (ap (λ (r : RowList). r.items) is) c.self.invariant (ap (λ (r : RowList). r.room_at) is ∙ c.len.ensures) (omega (arith, c.requires.first, c.requires.second)))
    c.requires.fits

pub returns-clause-items : goal.returns-clause-items
returns-clause-items c =
    let v = c.self.inside in
    let rows = c.args.self.now.items in
    let is = c.self.view_is ∙ c.move_room.ensures in
    ap (around_room v.start v.room) c.deepen.ensures
    ∙ end-changed v.start v.room v.items.items rows (deepened_part c.args.from c.args.to c.args.by) (ap (λ (r : RowList). r.items) is) c.self.invariant (ap (λ (r : RowList). r.room_at) is ∙ c.len.ensures)
    (mapped-front (deepened c.args.by) c.args.from c.args.to rows _ c.requires.first c.requires.second) (length-mapped (deepened c.args.by) c.args.from c.args.to rows c.requires.first c.requires.second)

pub returns-clause-same : goal.returns-clause-same
returns-clause-same c = ap length (returns-clause-items c) ∙ length-mapped (deepened c.args.by) c.args.from c.args.to c.args.self.now.items c.requires.first c.requires.second
