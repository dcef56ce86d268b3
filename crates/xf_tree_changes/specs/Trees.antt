-- Trees that come in, and the root that comes over one.
use Rattle.std.specs.Prelude.{ℕ, ◌≡◌, ◌+◌, ◌-◌, length, List, ◌∷◌, ◌++◌, take, drop, map, Some, None, IsSome, sum_by}
use Rattle.slab.specs.Slab.{Slab, get, Updates}
use Rattle.xf_def_forest.specs.declared.content.Content.{Content}
use Rattle.xf_def_forest.specs.declared.content.Content.TheVariants.{Root}
use Rattle.xf_def_forest.specs.Changes.{in_instances}
use Rattle.xf_def_forest.specs.Limits.{size_of}
use Rattle.xf_tree_rows.specs.declared.rows.Row.{Row}
use Rattle.xf_tree_rows.specs.Rows.{deeper, deepened, tree_of, after_tree}
use Rattle.xf_tree_contents.specs.Slot.{Slot}
use Rattle.xf_tree_contents.specs.Keys.{content_in}
use Rattle.xf_tree_walks.specs.Nodes.{node_of}

-- the sizes of all contents
abbrev pub size_of_all : List (ℕ × Content) → ℕ
size_of_all contents = sum_by (λ p. size_of p.1) contents

-- what a row is besides its size
abbrev pub unsized : Row → ℕ × ℕ
unsized r = (r.key, r.depth)

-- what is live stays so, with the same slot
abbrev pub KeepsLive : Slab Slot → Slab Slot → Type 0
KeepsLive s s2 = (key : ℕ) → IsSome (get s key) → get s2 key ≡ get s key

-- the content at a row, with its depth below a top
abbrev pub part_of : Slab Slot → ℕ → Row → ℕ × Content
part_of s by r = (r.depth - by, content_in (get s r.key))

-- ---- a root

-- the new rows have the tree at a place one deeper, under a new row, behind the instances' rows among the others; and the slab has the
-- new row's root
pub record IsOver (at number key : ℕ) (s s2 : Slab Slot) (old new : List Row) : Type 0 where
  pub place : ℕ
  pub rows : let rest = take at old ++ after_tree (drop at old) in
      let tree = tree_of (drop at old) in
      new ≡ take place rest ++ ((record { key = key; size = length tree + 1; depth = 0 } ∷ map (deepened 1) tree) ++ drop place rest)
  pub instances : let rest = take at old ++ after_tree (drop at old) in map (node_of s) (take place rest) ≡ in_instances (map (node_of s) rest)
  pub stops : deeper 0 (drop place (take at old ++ after_tree (drop at old))) ≡ 0
  pub vacant : get s key ≡ None
  pub slot : Updates s s2 key (Some (record { number = number; owner = 0; content = Root }))
