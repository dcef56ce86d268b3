use Rattle.std.proofs.Common.{◌≡◌, ◌++◌, None, map, drop}
use Rattle.xf_def_forest.specs.Literal.{printed_from}
use Rattle.xf_tree_walks.specs.Nodes.{node_of}
use Rattle.xf_tree_literals.proofs.shown.push_printed.Given as goal

abbrev pub invariant-loop-at : goal.invariant-loop-at
invariant-loop-at l =
    map (node_of l.slots) l.left.items ++ printed_from l.kept.keys l.out (map (node_of l.slots) (drop l.at l.rows))
    ≡ map (node_of l.slots) l.fn.left.items ++ printed_from l.kept.keys None (map (node_of l.slots) (drop 1 l.rows))
