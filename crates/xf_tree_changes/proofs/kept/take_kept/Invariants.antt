use Rattle.std.proofs.Common.{◌≡◌, ◌≤◌, ℕ, length, take, drop}
use Rattle.std.specs.Prelude.{filter}
use Rattle.xf_def_forest.specs.Visit.{has}
use Rattle.xf_tree_changes.specs.Texts.{numbers_in, numbers_of, places_of, is_wanted, is_left}
use Rattle.xf_tree_changes.proofs.kept.take_kept.Given as goal

abbrev pub invariant-loop-at : goal.invariant-loop-at
invariant-loop-at l = record {
  left : l.left ≤ length l.texts.items;
  order : l.at ≤ l.to;
  within : l.to ≤ length l.kept.items;
  same : length l.kept.items ≡ length l.fn.kept.items;
  front : take l.at l.kept.items ≡ take l.at l.fn.kept.items;
  others : drop l.to l.kept.items ≡ filter (is_left l.slots (numbers_in l.fn.texts.items)) (drop l.at l.fn.kept.items);
  taken : places_of (drop l.left l.texts.items) ≡ filter (is_wanted l.slots (numbers_in l.fn.texts.items)) (drop l.at l.fn.kept.items);
  known : numbers_in (drop l.left l.texts.items) ≡ numbers_of l.slots (places_of (drop l.left l.texts.items));
  all : (n : ℕ) → has n (numbers_in l.fn.texts.items) ≡ has n (numbers_in l.texts.items);
}

abbrev pub decreases-loop-at : goal.decreases-loop-at
decreases-loop-at l = l.at
