use Rattle.std.proofs.Common.{◌≡◌, ◌-◌, ◌^◌, min, take}
use Rattle.std.specs.Prelude.{sum_by}
use Rattle.xf_snap.specs.Within.{attribute_size}
use Rattle.xf_snap.proofs.amount.attributes_size.Given as goal

abbrev pub invariant-loop-attribute : goal.invariant-loop-attribute
invariant-loop-attribute l = l.size ≡ min (sum_by attribute_size (take l.attribute-index l.attributes)) (2 ^ 64 - 1)
