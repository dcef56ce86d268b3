use Rattle.std.proofs.Common.{◌≡◌, ◌≤◌, take, drop, false}
use Rattle.xf_def_forest.specs.Visit.{has}
use Rattle.xf_tree_changes.specs.Texts.{numbers_in}
use Rattle.xf_tree_changes.proofs.kept.place_among.Given as goal

abbrev pub invariant-loop-left : goal.invariant-loop-left
invariant-loop-left l = record {
  within : l.left ≤ l.count;
  none : has l.number (numbers_in (drop l.left (take l.count l.texts))) ≡ false;
}

abbrev pub decreases-loop-left : goal.decreases-loop-left
decreases-loop-left l = l.left
