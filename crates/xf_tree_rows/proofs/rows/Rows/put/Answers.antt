use Rattle.std.proofs.Common.{ℕ, ◌+◌, List, length, set, length-set, ap, ◌∙◌}
use Rattle.xf_tree_rows.specs.declared.rows.Row.{Row}
use Rattle.xf_tree_rows.specs.Rows.{RowList}
use Rattle.xf_tree_rows.proofs.RoomLemmas.{around_room, put-before, put-behind}
use Rattle.xf_tree_rows.proofs.rows.Rows.put.Goals as goal

pub returns-then-at-self : goal.returns-then-at-self
returns-then-at-self c =
    let v = c.self.inside in
    let shown : List Row → ℕ → RowList = λ l n. record { items = l; room_at = v.start; capacity = n } in
    ap (λ l. shown l (length (set v.items.items c.args.at c.args.row))) (put-before v.start v.room c.args.at v.items.items c.args.row c.self.invariant c.if-at-self.true)
    ∙ ap (shown (set (around_room v.start v.room v.items.items) c.args.at c.args.row)) (length-set v.items.items c.args.at c.args.row)
    ∙ ap (λ (r : RowList). record r { items = set r.items c.args.at c.args.row }) c.self.view_is

pub returns-else-at-self : goal.returns-else-at-self
returns-else-at-self c =
    let v = c.self.inside in
    let shown : List Row → ℕ → RowList = λ l n. record { items = l; room_at = v.start; capacity = n } in
    ap (λ l. shown l (length (set v.items.items (c.args.at + v.room) c.args.row))) (put-behind v.start v.room c.args.at v.items.items c.args.row c.self.invariant c.if-at-self.false)
    ∙ ap (shown (set (around_room v.start v.room v.items.items) c.args.at c.args.row)) (length-set v.items.items (c.args.at + v.room) c.args.row)
    ∙ ap (λ (r : RowList). record r { items = set r.items c.args.at c.args.row }) c.self.view_is
