-- The list of nodes that rows and slots stand for, its texts, and what stands at a place of it.
use Rattle.std.specs.Prelude.{ℕ, ◌≡◌, ◌+◌, ◌-◌, ◌≤◌, ◌<◌, ◌^◌, ◌==◌, length, slice_index_or, Bool, true, false, List, [], ◌∷◌, ◌++◌, take, drop, map, Option, Some, None, IsSome, count_by, ◌&&◌, if◌then◌else◌}
use Rattle.std.specs.List.{flat_map}
use Rattle.slab.specs.Slab.{Slab, get}
use Rattle.xf_def_forest.specs.declared.content.Node.{Node}
use Rattle.xf_def_forest.specs.declared.content.Content.{Content}
use Rattle.xf_def_forest.specs.Forest.{is_root, is_attribute, own_text}
use Rattle.xf_def_forest.specs.Limits.{size_of}
use Rattle.xf_def_forest.specs.StringValue.{characters}
use Rattle.xf_tree_rows.specs.declared.rows.Row.{Row}
use Rattle.xf_tree_rows.specs.Rows.{tree_of, no_row, AreSteps}
use Rattle.xf_tree_contents.specs.Slot.{Slot}
use Rattle.xf_tree_contents.specs.Keys.{content_in, number_in, same_kind}
use Rattle.xf_tree_walks.specs.Leaves.{AreLeaves}
use Rattle.xf_tree_walks.specs.First.{AreFirst}

abbrev pub node_of : Slab Slot → Row → Node
node_of slots r = record { number = number_in (get slots r.key); depth = r.depth; content = content_in (get slots r.key) }

-- ---- what holds between them

-- how often a number is there
abbrev pub times : ℕ → List Node → ℕ
times n [] = 0
times n (x ∷ xs) = (if x.number == n then 1 else 0) + times n xs

abbrev pub AllLive : Slab Slot → List Row → Type 0
AllLive slots [] = Unit {0}
AllLive slots (r ∷ rs) = IsSome (get slots r.key) × AllLive slots rs

-- roots are tops
abbrev pub AllTops : List Node → Type 0
AllTops [] = Unit {0}
AllTops (x ∷ xs) = (is_root x.content ≡ true → x.depth ≡ 0) × AllTops xs

-- every key keeps what it had but those of these nodes, or of these kept texts
abbrev pub KeepsBut : Slab Slot → Slab Slot → List Node → Type 0
KeepsBut s s2 gone = (key : ℕ) → times (number_in (get s key)) gone ≡ 0 → get s2 key ≡ get s key

-- the row at this place is of the node with this number
pub record StandsAt (slots : Slab Slot) (rows : List Row) (n at : ℕ) : Type 0 where
  pub within : at < length rows
  pub number : number_in (get slots (slice_index_or rows at no_row).key) ≡ n

-- the number of the node whose row stands at this place, where there is one
abbrev pub number_at : Slab Slot → List Row → Option ℕ → Option ℕ
number_at slots rows None = None
number_at slots rows (Some k) = Some (number_in (get slots (slice_index_or rows k no_row).key))

-- ---- texts

abbrev pub texts_in : Slab Slot → List Row → List ℕ
texts_in s rows = flat_map (λ (y : Node). characters y.content) (map (node_of s) rows)

-- the text that the node at a place has itself, then those below it
abbrev pub text_of : Slab Slot → List Row → ℕ → List ℕ
text_of s rows at =
    own_text (content_in (get s (slice_index_or rows at no_row).key)) ++ texts_in s (take (length (tree_of (drop at rows)) - 1) (drop (at + 1) rows))

-- a node of this depth that is an attribute, or none
abbrev pub is_kin : ℕ → Bool → Node → Bool
is_kin depth wanted y = (y.depth == depth) && same_kind wanted y.content

-- how many of these rows are such nodes
abbrev pub kin_in : Slab Slot → ℕ → Bool → List Row → ℕ
kin_in s depth wanted rows = count_by (is_kin depth wanted) (map (node_of s) rows)

-- how many rows between two places have the depth and the kind of the second one
abbrev pub kin_before : Slab Slot → List Row → ℕ → ℕ → ℕ
kin_before s rows above at =
    let here = node_of s (slice_index_or rows at no_row) in
    kin_in s here.depth (is_attribute here.content) (take (at - (above + 1)) (drop (above + 1) rows))

-- ---- trees that come in

abbrev pub AllPlain : List (ℕ × Content) → Type 0
AllPlain [] = Unit {0}
AllPlain (p ∷ ps) = (is_root p.1 ≡ false) × (size_of p.1 ≤ 2 ^ 66) × AllPlain ps

-- the contents of a tree with their depths: no root is among them, no leaf has anything below it, attributes stand first, and none is
-- larger than memory allows
pub record IsTree (contents : List (ℕ × Content)) : Type 0 where
  pub steps : AreSteps 0 (map (λ p. p.0) contents)
  pub plain : AllPlain contents
  pub leaves : AreLeaves contents
  pub first : AreFirst 0 contents
