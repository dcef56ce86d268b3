use Rattle.std.proofs.Common.{◌≡◌, ℕ, List, take}
use Rattle.std.specs.List.{All}
use Rattle.xf_def_forest.specs.Forest.{is_text}
use Rattle.xf_tree_paths.specs.Family.{IsKid, count_in, is_named, tallied}
use Rattle.xf_tree_paths.proofs.family.kids_of.Given as goal

abbrev pub invariant-loop-at : goal.invariant-loop-at
invariant-loop-at l = record {
  seen : (w : List ℕ) → tallied l.seen w ≡ count_in (is_named w) l.forest.forest.nodes (take l.at l.children);
  texts : l.texts ≡ count_in is_text l.forest.forest.nodes (take l.at l.children);
  kids : All (IsKid l.forest.forest.nodes l.fn.node.number) l.kids.items;
}
