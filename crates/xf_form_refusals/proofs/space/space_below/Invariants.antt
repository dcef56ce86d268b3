use Rattle.std.proofs.Common.{◌≡◌, drop}
use Rattle.xf_form_refusals.specs.Standing.{space_below}
use Rattle.xf_form_refusals.proofs.space.space_below.Given as goal

abbrev pub invariant-loop-attribute : goal.invariant-loop-attribute
invariant-loop-attribute l = space_below l.prefixes l.above l.attributes ≡ space_below l.prefixes l.above (drop l.attribute-index l.attributes)
