use Rattle.std.proofs.Common.{◌≡◌, suc, ◌+◌, ◌-◌, ◌^◌, min, take, length}
use Rattle.std.specs.Prelude.{sum_by}
use Rattle.xf_snap.specs.Within.{tree_nodes}
use Rattle.xf_snap.proofs.amount.+nodes.Given as goal

abbrev pub invariant-element_nodes-loop-child : goal.invariant-element_nodes-loop-child
invariant-element_nodes-loop-child l = l.nodes ≡ min (suc (length l.element.attributes + sum_by tree_nodes (take l.child-index l.element.children))) (2 ^ 64 - 1)
