use Rattle.std.proofs.Common.{◌≡◌, drop}
use Rattle.xf_name.specs.Declarations.{with_attributes}
use Rattle.xf_name.proofs.prefixes.Prefixes.declare_all.Given as goal

abbrev pub invariant-loop-attribute : goal.invariant-loop-attribute
invariant-loop-attribute l = with_attributes l.fn.self l.attributes ≡ with_attributes l.self (drop l.attribute-index l.attributes)
