use Rattle.xf_def_forest.specs.Visit.{visits}
use Rattle.xf_insert.specs.Closed.{closed_by}
use Rattle.xf_insert.proofs.LoopLaws.{taken-end, taken-next}
use Rattle.xf_insert.proofs.taking.taken.Goals as goal

pub loop-node-preserved : goal.loop-node-preserved
loop-node-preserved g c =
    let nodes = c.args.planning.now.forest.now.forest.nodes in
    let closed = closed_by (g.M.NodeMarks.marks_of c.args.planning.now.marks.now) nodes in
    taken-next (visits nodes) closed c.args.nodes.now c.loop-node.node-index _ c.loop-node.known.keys c.take_node.new.known.keys c.loop-node.all c.take_node.new.all _ c.loop-node-test.true
    c.in_ok-take_node.ensures.all c.in_ok-take_node.ensures.known c.loop-node.invariant

pub returns : goal.returns
returns g c =
    let nodes = c.args.planning.now.forest.now.forest.nodes in
    let closed = closed_by (g.M.NodeMarks.marks_of c.args.planning.now.marks.now) nodes in
    taken-end (visits nodes) closed c.args.nodes.now c.loop-node.node-index c.loop-node.known.keys c.loop-node.all _ c.loop-node-test.false c.loop-node.invariant
