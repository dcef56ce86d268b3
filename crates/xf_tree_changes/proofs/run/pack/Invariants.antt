use Rattle.std.proofs.Common.{◌≡◌, ◌≤◌, ◌-◌, ◌++◌, length, take, drop}
use Rattle.xf_tree_changes.specs.Texts.{attributes}
use Rattle.xf_tree_changes.proofs.run.pack.Given as goal

abbrev pub invariant-loop-at : goal.invariant-loop-at
invariant-loop-at l = record {
  order : l.from ≤ l.to;
  within : l.to ≤ l.at;
  front : take l.to l.rows.items ≡ take l.from l.fn.rows.items ++ attributes l.slots (take (l.at - l.from) (drop l.from l.fn.rows.items));
  rest : drop l.at l.rows.items ≡ drop l.at l.fn.rows.items;
  same : length l.rows.items ≡ length l.fn.rows.items;
  room : l.rows.capacity ≡ l.fn.rows.capacity;
}
