use Rattle.std.proofs.Common.{◌≡◌, map, take}
use Rattle.std.specs.List.{flat_map}
use Rattle.xf_def_xpath.specs.Steps.{reached}
use Rattle.xf_eval.specs.Worth.{seen}
use Rattle.xf_eval.proofs.sets.reach_all.Given as goal

abbrev pub invariant-loop-node : goal.invariant-loop-node
invariant-loop-node l = l.found ≡ flat_map (reached l.axis l.test (seen l.forest.forest.nodes)) (map (λ n. n.number) (take l.node-index l.node-items))
