use Rattle.std.proofs.Common.{◌≡◌, ◌+◌, ◌≤◌, ◌++◌, length, take, drop, vec_len, vec_capacity}
use Rattle.xf_tree_changes.specs.Texts.{children, keys_of, numbers_at, numbers_in, IsOwned}
use Rattle.xf_tree_changes.proofs.kept.keep_texts.Given as goal

abbrev pub invariant-loop-at : goal.invariant-loop-at
invariant-loop-at l = record {
  kept : l.kept.items ≡ l.fn.kept.items ++ keys_of (children l.fn.slots (take l.at l.rows));
  had : numbers_in l.had.items ≡ numbers_in l.fn.had.items ++ numbers_at l.fn.slots (children l.fn.slots (take l.at l.rows));
  slots : IsOwned l.owner (keys_of (children l.fn.slots (take l.at l.rows))) l.fn.slots l.slots;
  kept_room : vec_len l.kept + length (children l.fn.slots (drop l.at l.rows)) ≤ vec_capacity l.kept;
  had_room : vec_len l.had + length (children l.fn.slots (drop l.at l.rows)) ≤ vec_capacity l.had;
}
