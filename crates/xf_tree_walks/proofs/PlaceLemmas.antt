-- The rows at and around a place are nodes of the list.
use Rattle.std.proofs.Common.{◌≡◌, ℕ, zero, suc, ◌+◌, ◌-◌, ◌<◌, ◌≤◌, true, IsSome, List, [], ◌∷◌, ◌++◌, map, length, take, drop, get_or, nat_lt, refl, sym, ap, ◌∙◌, inl, inr, arith, length-drop, length-take}
use Rattle.std.proofs.lemmas.Bool.{cases_Bool, cases_lt}
use Rattle.std.proofs.lemmas.List.{take-append-drop, map-append, get_or-take, get_or-drop}
use Rattle.slab.specs.Slab.{Slab, get}
use Rattle.xf_def_forest.specs.declared.content.Node.{Node}
use Rattle.xf_def_forest.specs.Forest.{has_number, below, past}
use Rattle.xf_tree_rows.specs.declared.rows.Row.{Row}
use Rattle.xf_tree_rows.specs.Rows.{deeper, tree_of, no_row}
use Rattle.xf_tree_rows.proofs.SizedLemmas.{lt-true, lt-false}
use Rattle.xf_tree_rows.proofs.CutLemmas.{deeper-length}
use Rattle.xf_tree_rows.proofs.RowLemmas.{split-at}
use Rattle.xf_tree_contents.specs.Slot.{Slot}
use Rattle.xf_tree_contents.specs.Keys.{number_in}
use Rattle.xf_tree_walks.specs.Nodes.{node_of, times, StandsAt, AllLive}
use Rattle.xf_tree_walks.proofs.NodeLemmas.{Parted, part, times-here, times-append, times-absent, absent-times}

pub parted-at : {X Y : Type 0} (f : X → Y) (at : ℕ) (xs : List X) (d : X) → at < length xs → map f xs ≡ map f (take at xs) ++ (f (get_or xs at d) ∷ map f (drop (at + 1) xs))
parted-at f at xs d h =
    ap (map f) (sym (take-append-drop at xs)) ∙ map-append f (take at xs) (drop at xs) ∙ ap (λ l. map f (take at xs) ++ map f l) (split-at at xs d h)

pub stands : (s : Slab Slot) (n at : ℕ) (rows : List Row) → StandsAt s rows n at → times n (map (node_of s) rows) ≤ 1
    → Parted n (map (node_of s) rows) (map (node_of s) (take at rows)) (node_of s (get_or rows at no_row)) (map (node_of s) (drop (at + 1) rows))
stands s n at rows here few = part n _ _ _ _ (parted-at (node_of s) at rows no_row here.within) here.number few

pub below-is : (s : Slab Slot) (d : ℕ) (xs : List Row) → below d (map (node_of s) xs) ≡ map (node_of s) (take (deeper d xs) xs)
below-is s d [] = refl
below-is s d (x ∷ xs) = elim (cases_lt d x.depth) [
  | inl h ↦ rw (lt-true d x.depth h) (ap (λ l. node_of s x ∷ l) (below-is s d xs))
  | inr h ↦ rw (lt-false d x.depth h) refl
]

pub past-is : (s : Slab Slot) (d : ℕ) (xs : List Row) → past d (map (node_of s) xs) ≡ map (node_of s) (drop (deeper d xs) xs)
past-is s d [] = refl
past-is s d (x ∷ xs) = elim (cases_lt d x.depth) [
  | inl h ↦ rw (lt-true d x.depth h) (past-is s d xs)
  | inr h ↦ rw (lt-false d x.depth h) refl
]

pub tree-size : (at : ℕ) (rows : List Row) → at < length rows → length (tree_of (drop at rows)) ≡ suc (deeper (get_or rows at no_row).depth (drop (at + 1) rows))
tree-size at rows h =
    let x = get_or rows at no_row in
    let xs = drop (at + 1) rows in
    omega (arith, ap (λ l. length (tree_of l)) (split-at at rows no_row h), length-take (deeper x.depth xs) xs, deeper-length x.depth xs)

pub has-true : (n : ℕ) (xs : List Node) → 1 ≤ times n xs → has_number n xs ≡ true
has-true n xs h = elim (cases_Bool (has_number n xs)) [ inl e ↦ e | inr e ↦ absurd (omega (arith, times-absent n xs e)) ]

pub times-at : (s : Slab Slot) (n at : ℕ) (rows : List Row) → at < length rows → number_in (get s (get_or rows at no_row).key) ≡ n → 1 ≤ times n (map (node_of s) rows)
times-at s n at rows h e =
    let a = ap (times n) (parted-at (node_of s) at rows no_row h) in
    let b = times-here n (map (node_of s) (take at rows)) (node_of s (get_or rows at no_row)) (map (node_of s) (drop (at + 1) rows)) e in
    omega arith

pub stands-live : (s : Slab Slot) (n at : ℕ) (rows : List Row) → StandsAt s rows n at → has_number n (map (node_of s) rows) ≡ true
stands-live s n at rows here = has-true n (map (node_of s) rows) (times-at s n at rows here.within here.number)

-- a node stands after a place where its row does
pub stands-after : (s : Slab Slot) (m at to : ℕ) (rows : List Row) → at < length rows → StandsAt s rows m to → times m (map (node_of s) rows) ≤ 1
    → has_number m (map (node_of s) (drop (at + 1) rows)) ≡ nat_lt at to
stands-after s m at to rows within there few =
    let f = node_of s in
    let i = there.within in
    elim (cases_lt at to) [
      | inl l ↦
          let k = to - (at + 1) in
          let sum : at + 1 + k ≡ to = omega arith in
          let in_rest : k < length (drop (at + 1) rows) = omega (arith, length-drop (at + 1) rows) in
          let same = get_or-drop (at + 1) rows k no_row ∙ ap (λ j. get_or rows j no_row) sum in
          let one = times-at s m k (drop (at + 1) rows) in_rest (ap (λ (r : Row). number_in (get s r.key)) same ∙ there.number) in
          has-true m (map f (drop (at + 1) rows)) one ∙ sym (lt-true at to l)
      | inr l ↦
          let in_front : to < length (take (at + 1) rows) = omega (arith, length-take (at + 1) rows) in
          let small : to < at + 1 = omega arith in
          let same = get_or-take (at + 1) rows to no_row small in
          let one = times-at s m to (take (at + 1) rows) in_front (ap (λ (r : Row). number_in (get s r.key)) same ∙ there.number) in
          let both = ap (λ r. times m (map f r)) (sym (take-append-drop (at + 1) rows)) ∙ ap (times m) (map-append f (take (at + 1) rows) (drop (at + 1) rows)) ∙ times-append m (map f (take (at + 1) rows)) (map f (drop (at + 1) rows)) in
          absent-times m (map f (drop (at + 1) rows)) (omega arith) ∙ sym (lt-false at to l)
    ]

pub live-at : (s : Slab Slot) (rows : List Row) (at : ℕ) (d : Row) → at < length rows → AllLive s rows → IsSome (get s (get_or rows at d).key)
live-at s [] at d h l = absurd (omega arith)
live-at s (r ∷ rs) zero d h l = l.0
live-at s (r ∷ rs) (suc at) d h l = live-at s rs at d (omega arith) l.1
