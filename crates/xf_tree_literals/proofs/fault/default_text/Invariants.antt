use Rattle.std.proofs.Common.{◌≡◌, drop}
use Rattle.xf_name.specs.Written.{default_below}
use Rattle.xf_tree_literals.proofs.fault.default_text.Given as goal

abbrev pub invariant-loop-attribute : goal.invariant-loop-attribute
invariant-loop-attribute l = default_below l.above (drop l.attribute-index l.attributes) ≡ default_below l.above l.attributes
