use Rattle.xf_engine_state.proofs.ToldLaws.{path-turn}
use Rattle.xf_engine_state.proofs.rebuilding.paths_in.Goals as goal

pub loop-node-preserved : goal.loop-node-preserved
loop-node-preserved c =
    path-turn c.args.instances.now c.args.forest.now.forest c.loop-node.paths c.push.new.self c.in_ok-path_in.field-0 c.args.nodes.now c.loop-node.node-index _ c.loop-node-test.true c.in_ok-push.ensures.ok
    c.in_ok-path_in.ensures c.loop-node.invariant
