use Rattle.xf_def_forest.specs.Forest.{is_attribute}
use Rattle.xf_def_forest.specs.Visit.{visits}
use Rattle.xf_insert.proofs.LoopLaws.{among-end, among-next}
use Rattle.xf_insert.proofs.placing.attributes_among.Goals as goal

pub loop-node-preserved : goal.loop-node-preserved
loop-node-preserved c =
    among-next is_attribute (visits c.args.forest.now.forest.nodes) c.args.nodes.now c.loop-node.node-index _ c.loop-node.all c.push_attribute.new.all _ c.loop-node-test.true c.in_ok-push_attribute.ensures c.loop-node.invariant

pub returns : goal.returns
returns c = among-end is_attribute (visits c.args.forest.now.forest.nodes) c.args.nodes.now c.loop-node.node-index c.loop-node.all _ c.loop-node-test.false c.loop-node.invariant
