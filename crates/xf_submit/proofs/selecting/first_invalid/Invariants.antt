use Rattle.std.proofs.Common.{◌≡◌, drop, map, not}
use Rattle.std.specs.Prelude.{find}
use Rattle.xf_submit.specs.Selecting.{valid_by}
use Rattle.xf_submit.proofs.selecting.first_invalid.Given as goal

abbrev pub invariant-loop-node : goal.invariant-loop-node
invariant-loop-node g l =
    find (λ m. not (valid_by (g.M.NodeMarks.marks_of l.marks) m)) (map (λ n. n.number) l.nodes)
    ≡ find (λ m. not (valid_by (g.M.NodeMarks.marks_of l.marks) m)) (map (λ n. n.number) (drop l.node-index l.nodes))
