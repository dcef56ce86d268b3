use Rattle.std.proofs.Common.{◌≡◌, map, drop}
use Rattle.std.specs.List.{list_any}
use Rattle.xf_form_refusals.specs.Refusals.{is_instance_in}
use Rattle.xf_form_refusals.specs.Rows.{shown}
use Rattle.xf_form_explain.proofs.elements.has_instance.Given as goal

abbrev pub invariant-loop-part : goal.invariant-loop-part
invariant-loop-part l = list_any (is_instance_in (map shown l.rows)) l.parts ≡ list_any (is_instance_in (map shown l.rows)) (drop l.part-index l.parts)
