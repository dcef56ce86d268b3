use Rattle.std.proofs.Common.{◌≡◌, drop}
use Rattle.xf_def_forest.specs.Plant.{default_below}
use Rattle.xf_tree_literals.proofs.plant.default_in.Given as goal

abbrev pub invariant-loop-attribute : goal.invariant-loop-attribute
invariant-loop-attribute l = default_below l.prefixes l.above (drop l.attribute-index l.attributes) ≡ default_below l.prefixes l.above l.attributes
