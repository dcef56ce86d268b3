use Rattle.std.proofs.Common.{◌≡◌, ◌≤◌, length, map, drop, reverse}
use Rattle.xf_def_forest.specs.Plant.{in_order}
use Rattle.xf_def_forest.specs.Planted.{bare_attribute}
use Rattle.xf_tree_literals.proofs.plant_bare.sorted_attributes.Given as goal

abbrev pub invariant-loop-at : goal.invariant-loop-at
invariant-loop-at l = record {
  within : l.at ≤ length l.attributes;
  so_far : reverse l.sorted.items ≡ in_order (map (bare_attribute l.prefixes) (drop l.at l.attributes));
}

abbrev pub decreases-loop-at : goal.decreases-loop-at
decreases-loop-at l = l.at
