use Rattle.std.proofs.Common.{◌≡◌, map, drop}
use Rattle.xf_eval.specs.Texts.{folded}
use Rattle.xf_eval.proofs.of_nodes.folded.Given as goal

abbrev pub invariant-loop-node : goal.invariant-loop-node
invariant-loop-node l = folded l.decimals l.kind l.forest.forest.nodes l.number (map (λ n. n.number) (drop l.node-index l.nodes)) ≡ folded l.decimals l.kind l.forest.forest.nodes l.fn.first (map (λ n. n.number) l.nodes)
