use Rattle.std.proofs.Common.{◌≡◌, ◌++◌, length, map, reverse}
use Rattle.std.specs.Prelude.{string_bytes}
use Rattle.std.specs.List.{flat_map}
use Rattle.xf_def_forest.specs.Path.{step_of}
use Rattle.xf_def_forest.specs.Visit.{visits}
use Rattle.xf_tree_walks.specs.Siblings.{AllPlaces}
use Rattle.xf_tree_walks.specs.Nodes.{node_of}
use Rattle.xf_tree_walks.specs.Walks.{number_of_row}
use Rattle.xf_tree_walks.proofs.path.push_steps.Given as goal

abbrev pub invariant-loop-place : goal.invariant-loop-place
invariant-loop-place l = record {
  so_far : string_bytes l.text ++ flat_map (step_of (visits (map (node_of l.slots) l.rows.items))) (reverse (map (number_of_row l.slots l.rows.items) l.left.items))
      ≡ string_bytes l.fn.text ++ flat_map (step_of (visits (map (node_of l.slots) l.rows.items))) (reverse (map (number_of_row l.slots l.rows.items) l.fn.places.items));
  within : AllPlaces l.rows.items l.left.items;
}

abbrev pub decreases-loop-place : goal.decreases-loop-place
decreases-loop-place l = length l.left.items
