-- Which nodes are older than a number, and what stands in trees of its own.
use Rattle.std.specs.Prelude.{ℕ, ◌≡◌, ◌<◌, Bool, true, false, not, List, [], ◌∷◌, nat_lt}
use Rattle.slab.specs.Slab.{Slab, get}
use Rattle.xf_def_forest.specs.declared.content.Node.{Node}
use Rattle.xf_def_forest.specs.Forest.{is_root}
use Rattle.xf_def_forest.specs.Needs.{is_new}
use Rattle.xf_tree_rows.specs.declared.rows.Row.{Row}
use Rattle.xf_tree_contents.specs.Slot.{Slot}
use Rattle.xf_tree_contents.specs.Keys.{number_in}

-- the row of a node with a number below this one
abbrev pub is_older : Slab Slot → ℕ → Row → Bool
is_older slots number r = nat_lt (number_in (get slots r.key)) number

abbrev pub is_newer : Slab Slot → ℕ → Row → Bool
is_newer slots number r = not (is_older slots number r)

-- a node that is no top is new where the node before it is, and no root is new
abbrev pub AreWhole : ℕ → Bool → List Node → Type 0
AreWhole number before [] = Unit {0}
AreWhole number before (x ∷ xs) =
    (0 < x.depth → is_new number x.number ≡ before) × (is_new number x.number ≡ true → is_root x.content ≡ false) × AreWhole number (is_new number x.number) xs
