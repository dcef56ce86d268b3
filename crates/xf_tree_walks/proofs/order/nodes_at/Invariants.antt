use Rattle.std.proofs.Common.{◌≡◌, ◌++◌, map, drop}
use Rattle.xf_tree_walks.specs.Reads.{each_once}
use Rattle.xf_tree_walks.specs.Walks.{number_of_row}
use Rattle.xf_tree_walks.proofs.order.nodes_at.Given as goal

abbrev pub invariant-loop-rank : goal.invariant-loop-rank
invariant-loop-rank l = l.list ++ map (number_of_row l.slots l.rows.items) (each_once l.next (drop l.rank-index l.ranks)) ≡ map (number_of_row l.slots l.rows.items) (each_once 0 l.ranks)
