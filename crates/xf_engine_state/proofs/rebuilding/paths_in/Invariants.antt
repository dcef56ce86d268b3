use Rattle.std.proofs.Common.{drop}
use Rattle.xf_engine_state.proofs.ToldLaws.{AreSoFar}
use Rattle.xf_engine_state.proofs.rebuilding.paths_in.Given as goal

abbrev pub invariant-loop-node : goal.invariant-loop-node
invariant-loop-node l = AreSoFar l.instances l.forest.forest l.paths (drop l.node-index l.nodes) l.fn.nodes
