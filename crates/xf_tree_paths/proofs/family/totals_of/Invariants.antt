use Rattle.std.proofs.Common.{◌≡◌, ℕ, List, take}
use Rattle.xf_tree_paths.specs.Family.{count_in, is_named, tallied}
use Rattle.xf_tree_paths.proofs.family.totals_of.Given as goal

abbrev pub invariant-loop-at : goal.invariant-loop-at
invariant-loop-at l = (w : List ℕ) → tallied l.tally w ≡ count_in (is_named w) l.forest.forest.nodes (take l.at l.nodes)
