use Rattle.std.proofs.Common.{map, take}
use Rattle.xf_def_forest.specs.declared.node.NodeId.{NodeId}
use Rattle.xf_def_forest.specs.Visit.{has}
use Rattle.xf_recalc_pertinent.specs.Spread.{Hears}
use Rattle.xf_recalc_pertinent.proofs.numbers.Numbers.add_all.Given as goal

abbrev pub invariant-loop-node : goal.invariant-loop-node
invariant-loop-node l = Hears l.fn.self l.self (λ n. has n (map (λ (i : NodeId). i.number) (take l.node-index l.nodes)))
