use Rattle.std.proofs.Common.{◌≡◌, ◌≤◌, length, drop, reverse}
use Rattle.std.specs.List.{filter_map}
use Rattle.xf_def_forest.specs.Plant.{attribute_in, in_order}
use Rattle.xf_tree_literals.proofs.plant.sorted_attributes.Given as goal

abbrev pub invariant-loop-at : goal.invariant-loop-at
invariant-loop-at l = record {
  within : l.at ≤ length l.attributes;
  so_far : reverse l.sorted.items ≡ in_order (filter_map (attribute_in l.prefixes) (drop l.at l.attributes));
}

abbrev pub decreases-loop-at : goal.decreases-loop-at
decreases-loop-at l = l.at
