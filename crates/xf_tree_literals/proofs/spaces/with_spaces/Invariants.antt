use Rattle.std.proofs.Common.{◌≡◌, ◌++◌, [], map, drop, reverse}
use Rattle.xf_tree_walks.specs.Nodes.{node_of}
use Rattle.xf_tree_literals.specs.Print.{placed, with_spaces}
use Rattle.xf_tree_literals.proofs.spaces.with_spaces.Given as goal

abbrev pub invariant-loop-row : goal.invariant-loop-row
invariant-loop-row l =
    map (placed l.slots) l.lines.items ++ with_spaces (reverse l.around.items) (map (node_of l.slots) (drop l.row-index l.rows))
    ≡ with_spaces [] (map (node_of l.slots) l.rows)
