use Rattle.std.proofs.Common.{◌≡◌, false, map, take}
use Rattle.std.specs.List.{list_any}
use Rattle.xf_def_forest.specs.declared.node.NodeId.{NodeId}
use Rattle.xf_def_forest.specs.Visit.{has}
use Rattle.xf_recalc_pertinent.proofs.begun.has_any.Given as goal

abbrev pub invariant-loop-node : goal.invariant-loop-node
invariant-loop-node l = list_any (λ n. has n l.fn.numbers) (map (λ (i : NodeId). i.number) (take l.node-index l.nodes)) ≡ false
