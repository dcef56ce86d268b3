-- A forest's shape: rows in document order, each with its depth and with how many rows its tree has.
use Rattle.std.specs.Prelude.{ℕ, suc, ◌≡◌, ◌+◌, ◌-◌, ◌≤◌, List, [], ◌∷◌, ◌++◌, map, take, drop, reverse, length, nat_lt, ◌==◌, Option, Some, None, if◌then◌else◌}
use Rattle.xf_tree_rows.specs.declared.rows.Row.{Row}

-- rows, with how many there is memory for, and at which place there is room for more
pub record RowList : Type 0 where
  pub items : List Row
  pub room_at : ℕ
  pub capacity : ℕ

-- how many rows at the front are deeper than this: as many as a node of this depth has below it
abbrev pub deeper : ℕ → List Row → ℕ
deeper depth [] = 0
deeper depth (y ∷ ys) = if nat_lt depth y.depth then suc (deeper depth ys) else 0

-- each row is at least so deep
abbrev pub AllDeep : ℕ → List Row → Type 0
AllDeep depth [] = Unit {0}
AllDeep depth (x ∷ xs) = (depth ≤ x.depth) × AllDeep depth xs

-- each row's size is the length of its tree
abbrev pub Sized : List Row → Type 0
Sized [] = Unit {0}
Sized (x ∷ xs) = (x.size ≡ deeper x.depth xs + 1) × Sized xs

-- the sizes of the rows before a place, the nearest first, are right with this after them
abbrev pub SizedBefore : List Row → List Row → Type 0
SizedBefore [] tail = Unit {0}
SizedBefore (y ∷ ys) tail = (y.size ≡ deeper y.depth tail + 1) × SizedBefore ys (y ∷ tail)

-- the rows before a place, the nearest first, put back in front of what stands from there on;
-- those that are open at a node of this depth are larger by so many
abbrev pub grown : ℕ → ℕ → List Row → List Row → List Row
grown by depth [] tail = tail
grown by depth (y ∷ ys) tail =
    if nat_lt y.depth depth then grown by y.depth ys (record { key = y.key; size = y.size + by; depth = y.depth } ∷ tail)
    else grown by depth ys (y ∷ tail)

abbrev pub shrunk : ℕ → ℕ → List Row → List Row → List Row
shrunk by depth [] tail = tail
shrunk by depth (y ∷ ys) tail =
    if nat_lt y.depth depth then shrunk by y.depth ys (record { key = y.key; size = y.size - by; depth = y.depth } ∷ tail)
    else shrunk by depth ys (y ∷ tail)

-- the part from the first place to before the second stands behind that to before the third
abbrev pub rotated : {X : Type 0} → ℕ → ℕ → ℕ → List X → List X
rotated at mid end xs = take at xs ++ ((take (end - mid) (drop mid xs) ++ take (mid - at) (drop at xs)) ++ drop end xs)

abbrev pub raised : ℕ → Row → Row
raised by x = record { key = x.key; size = x.size; depth = x.depth - by }

-- the tree of the first row, and what stands after it
abbrev pub tree_of : List Row → List Row
tree_of [] = []
tree_of (x ∷ xs) = x ∷ take (deeper x.depth xs) xs

abbrev pub after_tree : List Row → List Row
after_tree [] = []
after_tree (x ∷ xs) = drop (deeper x.depth xs) xs

abbrev pub top_depth : List Row → ℕ
top_depth [] = 0
top_depth (x ∷ xs) = x.depth

-- the rows but those of the tree at a place
abbrev pub rest_of : ℕ → List Row → List Row
rest_of at rows = take at rows ++ after_tree (drop at rows)

-- the new rows are the old ones with the tree at this place at the end
abbrev pub IsCut : ℕ → List Row → List Row → Type 0
IsCut at old new =
    let here = drop at old in
    new ≡ shrunk (length (tree_of here)) (top_depth here) (reverse (take at old)) (after_tree here ++ map (raised (top_depth here)) (tree_of here))

abbrev pub raised_part : ℕ → ℕ → ℕ → List Row → List Row
raised_part from to by xs = take from xs ++ (map (raised by) (take (to - from) (drop from xs)) ++ drop to xs)

-- the row after the tree at a place, where it has the same depth
abbrev pub next_row_of : List Row → ℕ → Option ℕ
next_row_of rows at =
    let here = drop at rows in
    let next = at + length (tree_of here) in
    if nat_lt next (length rows) then (if top_depth (drop next rows) == top_depth here then Some next else None) else None

-- of the rows before a place, so many of them, the nearest first, the place of the first that is less deep
abbrev pub less_deep : ℕ → List Row → Option ℕ
less_deep d [] = None
less_deep d (y ∷ ys) = if nat_lt y.depth d then Some (length ys) else less_deep d ys

abbrev pub parent_row_of : List Row → ℕ → Option ℕ
parent_row_of rows at = less_deep (top_depth (drop at rows)) (reverse (take at rows))

-- how many rows there are up to this one
abbrev pub past_row : Option ℕ → ℕ
past_row None = 0
past_row (Some k) = k + 1

abbrev pub deepened : ℕ → Row → Row
deepened by x = record { key = x.key; size = x.size; depth = x.depth + by }

abbrev pub deepened_part : ℕ → ℕ → ℕ → List Row → List Row
deepened_part from to by xs = take from xs ++ (map (deepened by) (take (to - from) (drop from xs)) ++ drop to xs)

-- the new rows are the old ones with the tree at the first place moved to the second, at this depth
abbrev pub IsPaste : ℕ → ℕ → ℕ → List Row → List Row → Type 0
IsPaste from to depth old new =
    let here = drop from old in
    new ≡ grown (length (tree_of here)) depth (reverse (take to old)) (map (deepened depth) (tree_of here) ++ (take (from - to) (drop to old) ++ after_tree here))

-- the new rows are the old ones with the last row before those from a place on, which are one deeper, and all these at an earlier place
abbrev pub IsRooted : ℕ → ℕ → List Row → List Row → Type 0
IsRooted place from old new =
    let last = length old - 1 in
    new ≡ take place old ++ ((drop last old ++ map (deepened 1) (take (last - from) (drop from old))) ++ take (from - place) (drop place old))

-- no depth is more than one greater than the one before it
abbrev pub AreSteps : ℕ → List ℕ → Type 0
AreSteps most [] = Unit {0}
AreSteps most (d ∷ ds) = (d ≤ most) × AreSteps (suc d) ds

abbrev pub depths : List Row → List ℕ
depths rows = map (λ r. r.depth) rows

-- ---- rows at a place

abbrev pub no_row : Row
no_row = record { key = 0; size = 0; depth = 0 }
