use Rattle.std.proofs.Common.{◌≡◌, ◌+◌, ◌-◌, ◌^◌, min, take, length}
use Rattle.std.specs.Prelude.{sum_by}
use Rattle.xf_snap.specs.Within.{attribute_size, tree_size}
use Rattle.xf_snap.proofs.amount.+size.Given as goal

abbrev pub invariant-element_size-loop-child : goal.invariant-element_size-loop-child
invariant-element_size-loop-child l = l.size ≡ min (length l.element.name.local + (sum_by attribute_size l.element.attributes + sum_by tree_size (take l.child-index l.element.children))) (2 ^ 64 - 1)
