use Rattle.std.proofs.Common.{map}
use Rattle.xf_def_forest.specs.Visit.{visits}
use Rattle.xf_actions.specs.Seen.{place_of}
use Rattle.xf_insert.proofs.LoopLaws.{within-end, within-next}
use Rattle.xf_insert.proofs.placing.within.Goals as goal

pub loop-node-preserved : goal.loop-node-preserved
loop-node-preserved c =
    within-next (visits c.args.forest.now.forest.nodes) c.args.parent.number c.args.nodes.now c.loop-node.node-index _ c.loop-node.next _ (map place_of c.loop-node.all) (map place_of c.push_copy.new.all) _
    c.loop-node-test.true c.in_ok-next.ensures.places c.in_ok-next.ensures.next c.loop-node.invariant

pub returns : goal.returns
returns c =
    within-end (visits c.args.forest.now.forest.nodes) c.args.parent.number c.args.nodes.now c.loop-node.node-index c.loop-node.next (map place_of c.loop-node.all) _ c.loop-node-test.false c.loop-node.invariant
