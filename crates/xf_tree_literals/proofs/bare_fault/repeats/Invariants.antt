use Rattle.std.proofs.Common.{◌≡◌, map, drop}
use Rattle.xf_name.specs.Faults.{has_double}
use Rattle.xf_name.proofs.DoubleLemmas.{doubles, name_shown}
use Rattle.xf_tree_literals.proofs.bare_fault.repeats.Given as goal

abbrev pub invariant-loop-attribute : goal.invariant-loop-attribute
invariant-loop-attribute l =
    has_double (map (λ a. (a.name.space, a.name.local)) l.attributes) ≡ doubles (map name_shown l.seen.keys) (map (λ a. (a.name.space, a.name.local)) (drop l.attribute-index l.attributes))
