use Rattle.std.proofs.Common.{◌↔◌, false, map, drop}
use Rattle.xf_tree_walks.specs.Nodes.{node_of}
use Rattle.xf_tree_changes.specs.Older.{AreWhole}
use Rattle.xf_tree_changes.proofs.drop.are_whole.Given as goal

abbrev pub invariant-loop-at : goal.invariant-loop-at
invariant-loop-at l = AreWhole l.number false (map (node_of l.slots) l.rows.items) ↔ AreWhole l.number l.before (map (node_of l.slots) (drop l.at l.rows.items))
