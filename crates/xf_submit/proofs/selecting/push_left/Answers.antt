use Rattle.xf_def_model.specs.Submitted.{left_by}
use Rattle.xf_submit.specs.Selecting.{relevant_by}
use Rattle.xf_submit.proofs.NodeLaws.{left-end, left-next}
use Rattle.xf_submit.proofs.selecting.push_left.Goals as goal

pub loop-node-preserved : goal.loop-node-preserved
loop-node-preserved g c =
    let is_left = left_by c.args.submission.now.is_relevant (relevant_by (g.M.NodeMarks.marks_of c.args.marks.now)) in
    left-next is_left c.args.nodes.now c.loop-node.node-index _ c.loop-node.kept c.push_if_left.new.kept _ c.loop-node-test.true c.in_ok-push_if_left.ensures c.loop-node.invariant

pub returns : goal.returns
returns g c =
    let is_left = left_by c.args.submission.now.is_relevant (relevant_by (g.M.NodeMarks.marks_of c.args.marks.now)) in
    left-end is_left c.args.nodes.now c.loop-node.node-index c.loop-node.kept _ c.loop-node-test.false c.loop-node.invariant
