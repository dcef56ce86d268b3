-- The nearest row before a place that is less deep is the parent's.
use Rattle.std.proofs.Common.{◌≡◌, ℕ, ◌≤◌, List, [], ◌∷◌, ◌++◌, map, length, take, drop, nat_lt, if◌then◌else◌, reverse, Option, Some, None, append_assoc, append-nil, inl, inr, refl, sym, ap, ◌∙◌, get_or}
use Rattle.std.proofs.lemmas.Bool.{cases_lt}
use Rattle.std.proofs.lemmas.List.{take-append-drop, reverse-append, reverse-reverse, length-reverse}
use Rattle.std.proofs.Math.Seq.{get_or-append_seam}
use Rattle.slab.specs.Slab.{Slab, get}
use Rattle.xf_def_forest.specs.declared.content.Node.{Node}
use Rattle.xf_def_forest.specs.Visit.{still_above, numbers, first_of, parent_of, visits}
use Rattle.xf_def_forest.proofs.RenumberLaws.{map-reverse}
use Rattle.xf_tree_rows.specs.declared.rows.Row.{Row}
use Rattle.xf_tree_rows.specs.Rows.{top_depth, less_deep, parent_row_of, no_row}
use Rattle.xf_tree_rows.proofs.SizedLemmas.{lt-true, lt-false}
use Rattle.xf_tree_rows.proofs.RowLemmas.{split-at}
use Rattle.xf_tree_contents.specs.Slot.{Slot}
use Rattle.xf_tree_contents.specs.Keys.{number_in}
use Rattle.xf_tree_walks.specs.Nodes.{node_of, times, StandsAt, number_at}
use Rattle.xf_tree_walks.proofs.PlaceLemmas.{stands}
use Rattle.xf_tree_walks.proofs.StackLemmas.{stack, still-shut, parted-ancestors}

-- what is open after these nodes, which come from the nearest on
abbrev pub opened : List Node → List Node
opened [] = []
opened (y ∷ ys) = y ∷ still_above y.depth (opened ys)

pub stack-opened : (ys us : List Node) → stack (opened ys) us ≡ opened (reverse us ++ ys)
stack-opened ys [] = refl
stack-opened ys (u ∷ us) =
    let turn : reverse (u ∷ us) ++ ys ≡ reverse us ++ (u ∷ ys) = ap (λ l. l ++ ys) (reverse-append (u ∷ []) us) ∙ append_assoc (reverse us) (u ∷ []) ys in
    stack-opened (u ∷ ys) us ∙ ap opened (sym turn)

-- what number the row at a place among these has, counted from the end
abbrev number_back : Slab Slot → ℕ → List Row → Option ℕ
number_back s d [] = None
number_back s d (y ∷ ys) = if nat_lt y.depth d then Some (number_in (get s y.key)) else number_back s d ys

first-above : (s : Slab Slot) (d : ℕ) (ys : List Row) → first_of (numbers (still_above d (opened (map (node_of s) ys)))) ≡ number_back s d ys
first-above s d [] = refl
first-above s d (y ∷ ys) = elim (cases_lt y.depth d) [
  | inl l ↦ rw (lt-true y.depth d l) refl
  | inr l ↦ rw (lt-false y.depth d l) (ap (λ z. first_of (numbers z)) (still-shut d y.depth (opened (map (node_of s) ys)) l) ∙ first-above s d ys)
]

get-seam : (ys : List Row) (y : Row) (zs : List Row) → get_or (reverse ys ++ (y ∷ zs)) (length ys) no_row ≡ y
get-seam ys y zs = ap (λ n. get_or (reverse ys ++ (y ∷ zs)) n no_row) (sym (length-reverse ys)) ∙ get_or-append_seam (reverse ys) y zs no_row

back-is : (s : Slab Slot) (d : ℕ) (ys zs : List Row) → number_back s d ys ≡ number_at s (reverse ys ++ zs) (less_deep d ys)
back-is s d [] zs = refl
back-is s d (y ∷ ys) zs =
    let turn : reverse (y ∷ ys) ++ zs ≡ reverse ys ++ (y ∷ zs) = ap (λ l. l ++ zs) (reverse-append (y ∷ []) ys) ∙ append_assoc (reverse ys) (y ∷ []) zs in
    elim (cases_lt y.depth d) [
      | inl l ↦ rw (lt-true y.depth d l) (ap (λ r. Some (number_in (get s r.key))) (sym (ap (λ l. get_or l (length ys) no_row) turn ∙ get-seam ys y zs)))
      | inr l ↦ rw (lt-false y.depth d l) (back-is s d ys (y ∷ zs) ∙ ap (λ l. number_at s l (less_deep d ys)) (sym turn))
    ]

pub parent-means : (s : Slab Slot) (n at : ℕ) (rows : List Row) → StandsAt s rows n at → times n (map (node_of s) rows) ≤ 1
    → parent_of n (visits (map (node_of s) rows)) ≡ number_at s rows (parent_row_of rows at)
parent-means s n at rows here few =
    let f = node_of s in
    let us = take at rows in
    let x = get_or rows at no_row in
    let p = stands s n at rows here few in
    let a = ap first_of (parted-ancestors n _ _ _ _ p) in
    let r : stack [] (map f us) ≡ opened (map f (reverse us)) = stack-opened [] (map f us) ∙ ap opened (append-nil (reverse (map f us)) ∙ sym (map-reverse f us)) in
    let b = ap (λ l. first_of (numbers (still_above x.depth l))) r in
    let d = first-above s x.depth (reverse us) in
    let e = back-is s x.depth (reverse us) (drop at rows) in
    let g : reverse (reverse us) ++ drop at rows ≡ rows = ap (λ l. l ++ drop at rows) (reverse-reverse us) ∙ take-append-drop at rows in
    let h : top_depth (drop at rows) ≡ x.depth = ap top_depth (split-at at rows no_row here.within) in
    a ∙ b ∙ d ∙ e ∙ ap (λ l. number_at s l (less_deep x.depth (reverse us))) g ∙ ap (λ t. number_at s rows (less_deep t (reverse us))) (sym h)
