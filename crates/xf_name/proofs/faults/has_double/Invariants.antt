use Rattle.std.proofs.Common.{◌≡◌, map, drop, filter_map}
use Rattle.xf_name.specs.Faults.{has_double, expanded}
use Rattle.xf_name.proofs.DoubleLemmas.{doubles, name_shown}
use Rattle.xf_name.proofs.faults.has_double.Given as goal

abbrev pub invariant-loop-attribute : goal.invariant-loop-attribute
invariant-loop-attribute l = has_double (filter_map (expanded l.prefixes) l.attributes) ≡ doubles (map name_shown l.seen.keys) (filter_map (expanded l.prefixes) (drop l.attribute-index l.attributes))
