use Rattle.std.proofs.Common.{◌≡◌, [], ◌++◌, drop}
use Rattle.xf_def_forest.specs.Visit.{visits}
use Rattle.xf_def_model.specs.Taken.{taken_from}
use Rattle.xf_insert.specs.Closed.{closed_by}
use Rattle.xf_insert.specs.Numbers.{numbers}
use Rattle.xf_insert.proofs.taking.taken.Given as goal

abbrev pub invariant-loop-node : goal.invariant-loop-node
invariant-loop-node g l =
    let nodes = l.planning.forest.now.forest.nodes in
    let closed = closed_by (g.M.NodeMarks.marks_of l.planning.marks.now) nodes in
    l.all ++ taken_from (visits nodes) closed l.known.keys (numbers (drop l.node-index l.nodes)) ≡ taken_from (visits nodes) closed [] (numbers l.nodes)
