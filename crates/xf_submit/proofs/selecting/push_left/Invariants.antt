use Rattle.std.proofs.Common.{◌≡◌, ◌++◌, map, drop}
use Rattle.std.specs.Prelude.{filter}
use Rattle.xf_def_model.specs.Submitted.{left_by}
use Rattle.xf_submit.specs.Selecting.{relevant_by}
use Rattle.xf_submit.proofs.selecting.push_left.Given as goal

abbrev pub invariant-loop-node : goal.invariant-loop-node
invariant-loop-node g l =
    let is_left = left_by l.submission.is_relevant (relevant_by (g.M.NodeMarks.marks_of l.marks)) in
    l.kept ++ filter is_left (map (λ n. n.number) (drop l.node-index l.nodes)) ≡ l.fn.kept ++ filter is_left (map (λ n. n.number) l.nodes)
