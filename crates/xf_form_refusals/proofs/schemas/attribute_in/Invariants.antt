use Rattle.std.proofs.Common.{◌≡◌, drop}
use Rattle.xf_form_refusals.specs.Schemas.{attribute_in}
use Rattle.xf_form_refusals.proofs.schemas.attribute_in.Given as goal

abbrev pub invariant-loop-attribute : goal.invariant-loop-attribute
invariant-loop-attribute l = attribute_in l.name l.attributes ≡ attribute_in l.name (drop l.attribute-index l.attributes)
