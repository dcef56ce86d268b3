use Rattle.std.proofs.Common.{◌≡◌, map, drop}
use Rattle.std.specs.List.{list_any}
use Rattle.xf_form_vocabulary.specs.Attributes.{shown}
use Rattle.xf_form_vocabulary.specs.Faults.{is_bad_text}
use Rattle.xf_form_vocabulary.proofs.faults.has_bad_text.Given as goal

abbrev pub invariant-loop-one : goal.invariant-loop-one
invariant-loop-one l = list_any (is_bad_text l.tag l.is_handler) (map shown l.known) ≡ list_any (is_bad_text l.tag l.is_handler) (map shown (drop l.one-index l.known))
