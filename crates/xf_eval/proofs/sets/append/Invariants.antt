use Rattle.std.proofs.Common.{◌≡◌, ◌++◌, map, take}
use Rattle.xf_eval.proofs.sets.append.Given as goal

abbrev pub invariant-loop-node : goal.invariant-loop-node
invariant-loop-node l = l.nodes ≡ l.initial.nodes ++ map (λ n. n.number) (take l.node-index l.node-items)
