use Rattle.std.proofs.Common.{◌≡◌, ℕ, suc, ◌<◌, ◌++◌, length, map, get_or, Option, Some, None}
use Rattle.std.specs.Prelude.{IfSome}
use Rattle.xf_tree_rows.specs.Rows.{no_row}
use Rattle.xf_tree_walks.specs.Siblings.{rows_up, AllPlaces}
use Rattle.xf_tree_walks.proofs.path.places_up.Given as goal

abbrev pub invariant-loop-next : goal.invariant-loop-next
invariant-loop-next l = record {
  so_far : map (λ p. get_or l.rows.items p no_row) l.places.items ++ rows_up l.rows.items l.next ≡ rows_up l.rows.items (Some l.at);
  within : AllPlaces l.rows.items l.places.items;
  next : IfSome l.next (λ p. p < length l.rows.items);
}

abbrev pub height : Option ℕ → ℕ
height None = 0
height (Some p) = suc p

abbrev pub decreases-loop-next : goal.decreases-loop-next
decreases-loop-next l = height l.next
