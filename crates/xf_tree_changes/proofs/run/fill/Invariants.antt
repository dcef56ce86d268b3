use Rattle.std.proofs.Common.{◌≡◌, ◌+◌, ◌++◌, length, map, take, drop}
use Rattle.xf_tree_changes.specs.Texts.{text_row}
use Rattle.xf_tree_changes.proofs.run.fill.Given as goal

abbrev pub invariant-loop-text : goal.invariant-loop-text
invariant-loop-text l = record {
  front : take l.rows.room_at l.rows.items ≡ take l.fn.rows.room_at l.fn.rows.items ++ map (text_row l.depth) (take l.text-index l.texts);
  rest : drop l.rows.room_at l.rows.items ≡ drop l.fn.rows.room_at l.fn.rows.items;
  count : length l.rows.items ≡ length l.fn.rows.items + l.text-index;
  room : l.rows.capacity ≡ l.fn.rows.capacity;
}
