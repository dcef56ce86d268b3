use Rattle.std.proofs.Common.{◌≡◌, ℕ, take}
use Rattle.xf_def_forest.specs.Visit.{has}
use Rattle.xf_tree_literals.proofs.shown.numbers_of.Given as goal

abbrev pub invariant-loop-at : goal.invariant-loop-at
invariant-loop-at l = (n : ℕ) → has n l.numbers.keys ≡ has n (take l.at l.nodes)
