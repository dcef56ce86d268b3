use Rattle.std.proofs.Common.{◌≡◌, map, drop}
use Rattle.xf_def_forest.specs.Limits.{limits, is_too_deep}
use Rattle.xf_tree_walks.specs.Nodes.{node_of}
use Rattle.xf_tree_changes.proofs.attach.has_deep.Given as goal

abbrev pub invariant-loop-at : goal.invariant-loop-at
invariant-loop-at l = is_too_deep limits.depth l.elements (map (node_of l.slots) (drop l.at l.tree)) ≡ is_too_deep limits.depth l.elements (map (node_of l.slots) l.tree)
