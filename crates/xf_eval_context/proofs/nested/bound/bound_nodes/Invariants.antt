use Rattle.std.proofs.Common.{◌≡◌, map, take}
use Rattle.std.specs.List.{flat_map}
use Rattle.xf_def_forest.specs.Visit.{visits}
use Rattle.xf_eval_context.specs.Nested.StandIns.{stand_ins_of}
use Rattle.xf_eval_context.proofs.nested.bound.bound_nodes.Given as goal

abbrev pub invariant-loop-node : goal.invariant-loop-node
invariant-loop-node l = l.found ≡ flat_map (stand_ins_of (visits l.forest.forest.nodes)) (map (λ n. n.number) (take l.node-index l.node-items))
