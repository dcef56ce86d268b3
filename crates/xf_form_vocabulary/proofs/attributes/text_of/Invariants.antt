use Rattle.std.proofs.Common.{◌≡◌, map, drop}
use Rattle.xf_form_vocabulary.specs.Attributes.{shown, text_in}
use Rattle.xf_form_vocabulary.proofs.attributes.text_of.Given as goal

abbrev pub invariant-loop-one : goal.invariant-loop-one
invariant-loop-one l = text_in l.code (map shown l.known) ≡ text_in l.code (map shown (drop l.one-index l.known))
