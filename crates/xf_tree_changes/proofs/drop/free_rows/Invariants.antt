use Rattle.std.proofs.Common.{◌≡◌, ◌≤◌, ◌-◌, ℕ, map, take}
use Rattle.slab.specs.Slab.{get}
use Rattle.xf_def_forest.specs.Limits.{node_count, all_size, size_of}
use Rattle.xf_tree_contents.specs.Keys.{content_in}
use Rattle.xf_tree_walks.specs.Nodes.{node_of, KeepsBut}
use Rattle.xf_tree_changes.proofs.drop.free_rows.Given as goal

abbrev pub invariant-loop-at : goal.invariant-loop-at
invariant-loop-at l = record {
  rest : KeepsBut l.fn.slots l.slots (map (node_of l.fn.slots) (take l.at l.rows));
  less : (key : ℕ) → size_of (content_in (get l.slots key)) ≤ size_of (content_in (get l.fn.slots key));
  total : l.total ≡ l.fn.total - node_count (map (node_of l.fn.slots) (take l.at l.rows));
  size : l.size ≡ l.fn.size - all_size (map (node_of l.fn.slots) (take l.at l.rows));
}
