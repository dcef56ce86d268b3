use Rattle.std.proofs.Common.{◌≡◌, drop}
use Rattle.xf_form_refusals.specs.Rows.{id_in}
use Rattle.xf_form_refusals.proofs.rows.id_in.Given as goal

abbrev pub invariant-loop-attribute : goal.invariant-loop-attribute
invariant-loop-attribute l = id_in l.attributes ≡ id_in (drop l.attribute-index l.attributes)
