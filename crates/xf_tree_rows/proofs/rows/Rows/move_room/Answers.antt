use Rattle.std.proofs.Common.{ℕ, ◌≡◌, ◌+◌, ◌≤◌, List, length, sym, ap, ◌∙◌, subst, arith}
use Rattle.std.specs.List.{copy_within}
use Rattle.xf_tree_rows.specs.declared.rows.Row.{Row}
use Rattle.xf_tree_rows.specs.declared.rows.Rows.TheInside.{Inside}
use Rattle.xf_tree_rows.specs.Rows.{RowList}
use Rattle.xf_tree_rows.proofs.RoomLemmas.{around_room, around-length, moved-forward, moved-back, length-copied}
use Rattle.xf_tree_rows.proofs.rows.Rows.move_room.Goals.{then-to-self, else-to-self}
use Rattle.xf_tree_rows.proofs.rows.Rows.move_room.Goals as goal

pub returns : goal.returns
returns c =
    let v = c.self.inside in
    let to = c.args.to in
    let xs = v.items.items in
    let shown : List Row → ℕ → RowList = λ l n. record { items = l; room_at = to; capacity = n } in
    let is : around_room v.start v.room xs ≡ c.args.self.now.items = ap (λ (r : RowList). r.items) c.self.view_is in
    let most : to + v.room ≤ length xs = omega (arith, c.requires, around-length v.start v.room xs c.self.invariant, ap length is) in
    let same : shown (around_room v.start v.room xs) (length xs) ≡ record c.args.self.now { room_at = to } = ap (λ (r : RowList). record r { room_at = to }) c.self.view_is in
    elim c.if-to-self.branch [
      | then-to-self w ↦
          subst (λ (i : Inside). shown (around_room to i.room i.items.items) (length i.items.items) ≡ record c.args.self.now { room_at = to }) (sym w.self-inside-is)
          (ap (λ l. shown (around_room to v.room l) (length l)) w.copy_within.ensures.items
          ∙ ap (λ l. shown l (length (copy_within xs to v.start (to + v.room)))) (moved-forward v.start v.room to xs c.self.invariant (omega (arith, w.if-to-self.true)))
          ∙ ap (shown (around_room v.start v.room xs)) (length-copied to v.start (to + v.room) xs (omega (arith, c.self.invariant, w.if-to-self.true)) (omega (arith, c.self.invariant)))
          ∙ same)
      | else-to-self w ↦
          subst (λ (i : Inside). shown (around_room to i.room i.items.items) (length i.items.items) ≡ record c.args.self.now { room_at = to }) (sym w.self-inside-is)
          (ap (λ l. shown (around_room to v.room l) (length l)) w.copy_within-else-to-self.ensures.items
          ∙ ap (λ l. shown l (length (copy_within xs (v.start + v.room) (to + v.room) v.start))) (moved-back v.start v.room to xs most w.if-to-self.false)
          ∙ ap (shown (around_room v.start v.room xs)) (length-copied (v.start + v.room) (to + v.room) v.start xs (omega (arith, most, w.if-to-self.false)) most)
          ∙ same)
    ]
