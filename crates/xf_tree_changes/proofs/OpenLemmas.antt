-- How many elements a child of a node is below.
use Rattle.std.proofs.Common.{◌≡◌, ℕ, ◌+◌, ◌-◌, ◌<◌, cond, List, [], ◌∷◌, ◌++◌, length, take, drop, get_or, reverse, Some, None, take-add, refl, sym, ap, ◌∙◌, inl, inr, arith}
use Rattle.std.proofs.lemmas.Bool.{cases_lt}
use Rattle.std.proofs.lemmas.List.{reverse-append}
use Rattle.slab.specs.Slab.{Slab, get}
use Rattle.xf_def_forest.specs.Forest.{is_element}
use Rattle.xf_tree_rows.specs.declared.rows.Row.{Row}
use Rattle.xf_tree_rows.specs.Rows.{less_deep, parent_row_of, top_depth, no_row, AllDeep}
use Rattle.xf_tree_rows.proofs.SizedLemmas.{lt-true, lt-false}
use Rattle.xf_tree_rows.proofs.RowLemmas.{reverse-take, split-at}
use Rattle.xf_tree_rows.proofs.ParentLemmas.{deep-reverse}
use Rattle.xf_tree_contents.specs.Slot.{Slot}
use Rattle.xf_tree_contents.specs.Keys.{content_in}
use Rattle.xf_tree_walks.proofs.AboveLemmas.{above-is}
use Rattle.xf_tree_changes.specs.Below.{elements_open, elements_over}

abbrev pub one_if : Slab Slot → Row → ℕ
one_if s r = cond (is_element (content_in (get s r.key))) 1 0

-- a node, then what is open at it
here : (s : Slab Slot) (d : ℕ) (y : Row) (ys : List Row) → y.depth < d → elements_open s d (y ∷ ys) ≡ one_if s y + elements_open s y.depth ys
here s d y ys h = rw (lt-true y.depth d h) refl

-- what is as deep is not open
skipped : (s : Slab Slot) (d : ℕ) (ms ys : List Row) → AllDeep d ms → elements_open s d (ms ++ ys) ≡ elements_open s d ys
skipped s d [] ys all = refl
skipped s d (m ∷ ms) ys all = rw (lt-false m.depth d all.0) (skipped s d ms ys all.1)

none-open : (s : Slab Slot) (d : ℕ) (ys : List Row) → less_deep d ys ≡ None → elements_open s d ys ≡ 0
none-open s d [] e = refl
none-open s d (y ∷ ys) e = elim (cases_lt y.depth d) [
  | inl l ↦ absurd (nothing (rw (lt-true y.depth d l) at e))
  | inr l ↦ rw (lt-false y.depth d l) (none-open s d ys (rw (lt-false y.depth d l) at e))
]
  where
    nothing : {k : ℕ} → Some k ≡ None → ⊥
    nothing e = cc

over-here : (s : Slab Slot) (rows : List Row) (at : ℕ) → at < length rows
    → elements_over s rows at ≡ one_if s (get_or rows at no_row) + elements_open s (get_or rows at no_row).depth (reverse (take at rows))
over-here s rows at h =
    let y = get_or rows at no_row in
    let l : y.depth < y.depth + 1 = omega arith in
    ap (elements_open s (y.depth + 1)) (reverse-take rows at no_row h) ∙ here s (y.depth + 1) y (reverse (take at rows)) l

-- a node that has a parent
pub over-more : (s : Slab Slot) (rows : List Row) (at next : ℕ) → at < length rows → Some next ≡ parent_row_of rows at
    → elements_over s rows at ≡ one_if s (get_or rows at no_row) + elements_over s rows next
over-more s rows at next h is =
    let a = above-is rows next at h is in
    let o = a.order in
    let d = (get_or rows at no_row).depth in
    let y = get_or rows next no_row in
    let mid = take (at - (next + 1)) (drop (next + 1) rows) in
    let in_rows : next < length rows = omega arith in
    let sum : next + 1 + (at - (next + 1)) ≡ at = omega arith in
    let front : take at rows ≡ take (next + 1) rows ++ mid = ap (λ k. take k rows) (sym sum) ∙ take-add (next + 1) (at - (next + 1)) rows in
    let back : reverse (take at rows) ≡ reverse mid ++ (y ∷ reverse (take next rows)) =
    ap reverse front ∙ reverse-append (take (next + 1) rows) mid ∙ ap (λ l. reverse mid ++ l) (reverse-take rows next no_row in_rows) in
    let skip = skipped s d (reverse mid) (y ∷ reverse (take next rows)) (deep-reverse d mid a.between) in
    let one : elements_open s d (reverse (take at rows)) ≡ elements_over s rows next =
    ap (elements_open s d) back ∙ skip ∙ here s d y (reverse (take next rows)) a.less ∙ sym (over-here s rows next in_rows) in
    over-here s rows at h ∙ ap (λ k. one_if s (get_or rows at no_row) + k) one

-- a top
pub over-top : (s : Slab Slot) (rows : List Row) (at : ℕ) → at < length rows → None ≡ parent_row_of rows at → elements_over s rows at ≡ one_if s (get_or rows at no_row)
over-top s rows at h is =
    let y = get_or rows at no_row in
    let top : top_depth (drop at rows) ≡ y.depth = ap top_depth (split-at at rows no_row h) in
    let none = none-open s y.depth (reverse (take at rows)) (ap (λ d. less_deep d (reverse (take at rows))) (sym top) ∙ sym is) in
    omega (arith, over-here s rows at h, none)
