use Rattle.std.proofs.Common.{◌≡◌, ◌+◌, ◌≤◌, length}
use Rattle.std.specs.Vec.Iter.{into_iter_items, into_iter_len}
use Rattle.slab.specs.Slab.{HasRoomFor}
use Rattle.xf_tree_changes.proofs.PushLemmas.{Pushed}
use Rattle.xf_tree_changes.proofs.tree.push_all.Given as goal

abbrev pub invariant-loop-depth : goal.invariant-loop-depth
invariant-loop-depth l = let left = into_iter_items l.depth-iterator in record {
  pushed : Pushed l.fn.slots l.slots l.fn.rows.items l.rows.items l.fn.first l.number (into_iter_items l.initial.depth-iterator) left;
  slots : HasRoomFor l.slots (length left);
  rows : length l.rows.items + length left ≤ l.rows.capacity;
  room : l.rows.capacity ≡ l.fn.rows.capacity;
  numbers : l.number + length left ≡ l.fn.first + length (into_iter_items l.initial.depth-iterator);
  count : into_iter_len l.depth-iterator ≡ length left;
}
