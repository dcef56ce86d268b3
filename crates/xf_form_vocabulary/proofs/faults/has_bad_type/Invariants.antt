use Rattle.std.proofs.Common.{◌≡◌, map, drop}
use Rattle.std.specs.List.{list_any}
use Rattle.xf_form_vocabulary.specs.Attributes.{shown}
use Rattle.xf_form_vocabulary.specs.Faults.{is_bad_type}
use Rattle.xf_form_vocabulary.proofs.faults.has_bad_type.Given as goal

abbrev pub invariant-loop-one : goal.invariant-loop-one
invariant-loop-one l = list_any (is_bad_type l.prefixes l.names l.tag) (map shown l.known) ≡ list_any (is_bad_type l.prefixes l.names l.tag) (map shown (drop l.one-index l.known))
