use Rattle.std.proofs.Common.{◌≡◌, drop}
use Rattle.std.specs.List.{list_any}
use Rattle.xf_form_refusals.specs.Schemas.{is_other}
use Rattle.xf_form_refusals.proofs.schemas.has_other.Given as goal

abbrev pub invariant-loop-attribute : goal.invariant-loop-attribute
invariant-loop-attribute l = list_any (is_other l.name) l.attributes ≡ list_any (is_other l.name) (drop l.attribute-index l.attributes)
