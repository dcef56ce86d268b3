use Rattle.std.proofs.Common.{◌≡◌, ◌+◌, ◌-◌, ◌≤◌, length, vec_capacity, vec_len}
use Rattle.xf_tree_rows.proofs.RoomLemmas.{around_room}
use Rattle.xf_tree_rows.proofs.rows.Rows.reserve.Given as goal

abbrev pub invariant-loop-self : goal.invariant-loop-self
invariant-loop-self l = record {
  items : around_room l.self-inside.start l.self-inside.room l.self-inside.items.items ≡ l.fn.self.items;
  end : l.self-inside.start + l.self-inside.room ≡ length l.self-inside.items.items;
  more : l.fn.self.capacity ≤ length l.self-inside.items.items;
  room : length l.fn.self.items + l.more ≤ vec_capacity l.self-inside.items;
}

abbrev pub decreases-loop-self : goal.decreases-loop-self
decreases-loop-self l = vec_capacity l.self-inside.items - vec_len l.self-inside.items
