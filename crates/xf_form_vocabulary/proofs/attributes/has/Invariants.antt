use Rattle.std.proofs.Common.{◌≡◌, ◌==◌, map, drop}
use Rattle.std.specs.List.{list_any}
use Rattle.xf_form_vocabulary.specs.Attributes.{shown}
use Rattle.xf_form_vocabulary.proofs.attributes.has.Given as goal

abbrev pub invariant-loop-one : goal.invariant-loop-one
invariant-loop-one l = list_any (λ k. k.0 == l.code) (map shown l.known) ≡ list_any (λ k. k.0 == l.code) (map shown (drop l.one-index l.known))
