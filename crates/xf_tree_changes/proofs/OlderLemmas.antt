-- The rows of older nodes, where what is new stands in trees of its own.
use Rattle.std.proofs.Common.{◌≡◌, ℕ, ◌+◌, Bool, List, [], ◌∷◌, ◌++◌, map, inl, inr, arith}
use Rattle.std.specs.Prelude.{filter}
use Rattle.std.proofs.lemmas.Bool.{cases_Bool}
use Rattle.slab.specs.Slab.{Slab}
use Rattle.xf_def_forest.specs.declared.content.Node.{Node}
use Rattle.xf_tree_rows.specs.declared.rows.Row.{Row}
use Rattle.xf_tree_contents.specs.Slot.{Slot}
use Rattle.xf_tree_walks.specs.Nodes.{node_of}
use Rattle.xf_tree_changes.specs.Older.{is_older, is_newer, AreWhole}

abbrev pub olds : Slab Slot → ℕ → List Row → List Row
olds s number rows = filter (is_older s number) rows

abbrev news : Slab Slot → ℕ → List Row → List Row
news s number rows = filter (is_newer s number) rows

-- the rows are those of older nodes and those of others
pub older-parted : (s : Slab Slot) (number : ℕ) (X : List Node → ℕ) → ((xs ys : List Node) → X (xs ++ ys) ≡ X xs + X ys) → (rows : List Row)
    → X (map (node_of s) rows) ≡ X (map (node_of s) (olds s number rows)) + X (map (node_of s) (news s number rows))
older-parted s number X add [] = add [] []
older-parted s number X add (x ∷ xs) =
    let f = node_of s in
    let i = older-parted s number X add xs in
    let whole = add (f x ∷ []) (map f xs) in
    elim (cases_Bool (is_older s number x)) [
      | inl e ↦ rw e (omega (arith, add (f x ∷ []) (map f (olds s number xs))))
      | inr e ↦ rw e (omega (arith, add (f x ∷ []) (map f (news s number xs))))
    ]

-- ---- trees of their own

abbrev pub WholeRows : Slab Slot → ℕ → Bool → List Row → Type 0
WholeRows s number before rows = AreWhole number before (map (node_of s) rows)
