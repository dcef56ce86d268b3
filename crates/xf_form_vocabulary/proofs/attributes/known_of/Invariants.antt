use Rattle.std.proofs.Common.{◌≡◌, ◌++◌, map, drop, filter_map}
use Rattle.xf_form_vocabulary.specs.Attributes.{shown, known_of_pair}
use Rattle.xf_form_vocabulary.proofs.attributes.known_of.Given as goal

abbrev pub invariant-loop-attribute : goal.invariant-loop-attribute
invariant-loop-attribute l =
    map shown l.known.items ++ filter_map (known_of_pair l.prefixes) (drop l.attribute-index l.attributes) ≡ filter_map (known_of_pair l.prefixes) l.attributes
