-- A tree that was put behind a row outside it.
use Rattle.std.proofs.Common.{◌≡◌, ℕ, ◌+◌, ◌-◌, ◌<◌, ◌≤◌, List, [], ◌∷◌, ◌++◌, length, take, drop, get_or, refl, sym, ap, ◌∙◌, subst, inl, inr, arith, append-nil, length-append, length-take}
use Rattle.std.proofs.lemmas.Bool.{cases_lt}
use Rattle.std.proofs.lemmas.List.{drop_at, get_or-take, get_or-drop}
use Rattle.xf_tree_rows.specs.declared.rows.Row.{Row}
use Rattle.xf_tree_rows.specs.Rows.{Sized, deeper, tree_of, after_tree, rest_of, no_row}
use Rattle.xf_tree_rows.proofs.SizedLemmas.{lt-true, lt-false, sized-append}
use Rattle.xf_tree_rows.proofs.CutLemmas.{all-deep-zero}
use Rattle.xf_tree_rows.proofs.RowLemmas.{split-at}
use Rattle.xf_tree_rows.proofs.RootedLemmas.{rest-front, rest-sized}
use Rattle.xf_tree_walks.proofs.PlaceLemmas.{tree-size}
use Rattle.xf_tree_walks.proofs.RootLemmas.{past-tree}
use Rattle.xf_tree_changes.specs.Below.{IsBehind}

-- ---- a tree by itself

again : (d : ℕ) (xs : List Row) → (take (deeper d (take (deeper d xs) xs)) (take (deeper d xs) xs) ≡ take (deeper d xs) xs) × (drop (deeper d (take (deeper d xs) xs)) (take (deeper d xs) xs) ≡ [])
again d [] = (refl, refl)
again d (x ∷ xs) = elim (cases_lt d x.depth) [
  | inl l ↦ rw (lt-true d x.depth l) (rw (lt-true d x.depth l) (let i = again d xs in (ap (λ l. x ∷ l) i.0, i.1)))
  | inr l ↦ rw (lt-false d x.depth l) (refl, refl)
]

pub tree-alone : (xs : List Row) → (tree_of (tree_of xs) ≡ tree_of xs) × (after_tree (tree_of xs) ≡ [])
tree-alone [] = (refl, refl)
tree-alone (x ∷ xs) = let i = again x.depth xs in (ap (λ l. x ∷ l) i.0, i.1)

-- a top is below nothing
pub top-stops : (at : ℕ) (rows : List Row) → at < length rows → (get_or rows at no_row).depth ≡ 0 → deeper 0 (tree_of (drop at rows)) ≡ 0
top-stops at rows h top = ap (λ l. deeper 0 (tree_of l)) (split-at at rows no_row h) ∙ rw (lt-false 0 (get_or rows at no_row).depth (omega arith)) refl

-- ---- the tree put last

module _ (at above from : ℕ) (old new : List Row) (h : at < length old) (k : above < length old) (outside : at + length (tree_of (drop at old)) ≤ above)
    (moved : new ≡ take at old ++ (after_tree (drop at old) ++ tree_of (drop at old))) (sum : from + length (tree_of (drop at old)) ≡ length old) where
  pub last-sized : (get_or old at no_row).depth ≡ 0 → Sized old → Sized new
  last-sized top sized =
      let w = rest-front at from old new moved sum in
      let r = rest-sized at old h top sized in
      subst Sized (sym w.0) (sized-append 0 (rest_of at old) (tree_of (drop at old)) (all-deep-zero (rest_of at old)) (top-stops at old h top) r.0 r.2)

  last-row : (over : ℕ) → over ≡ above - length (tree_of (drop at old)) → get_or new over no_row ≡ get_or old above no_row
  last-row over is =
      let w = rest-front at from old new moved sum in
      let W = rest_of at old in
      let T = tree_of (drop at old) in
      let end = at + length T in
      let i = over - at in
      let small : over < from = omega arith in
      let a : get_or new over no_row ≡ get_or W over no_row = sym (get_or-take from new over no_row small) ∙ ap (λ l. get_or l over no_row) w.2 in
      let here : at + i ≡ over = omega arith in
      let there : end + i ≡ above = omega arith in
      let lt : length (take at old) ≡ at = omega (arith, length-take at old) in
      let b : drop at W ≡ drop end old = drop_at (take at old) (after_tree (drop at old)) at lt ∙ sym (past-tree at end old refl) in
      a ∙ ap (λ j. get_or W j no_row) (sym here) ∙ sym (get_or-drop at W i no_row) ∙ ap (λ l. get_or l i no_row) b ∙ get_or-drop end old i no_row ∙ ap (λ j. get_or old j no_row) there

  pub last-behind : (over : ℕ) → over ≡ above - length (tree_of (drop at old)) → IsBehind at above from over old new
  last-behind over is =
      let w = rest-front at from old new moved sum in
      let W = rest_of at old in
      let T = tree_of (drop at old) in
      let some = tree-size at old h in
      let len : length new ≡ length old = omega (arith, ap length w.0, length-append W T, w.1) in
      let d : drop from new ≡ T = ap (drop from) w.0 ∙ drop_at W T from (sym w.1) in
      let alone = tree-alone (drop at old) in
      record {
        order = omega arith;
        within = omega arith;
        count = len;
        rest = ap (λ l. l ++ after_tree (drop from new)) w.2 ∙ ap (λ l. W ++ after_tree l) d ∙ ap (λ l. W ++ l) alone.1 ∙ append-nil W;
        tree = ap tree_of d ∙ alone.0;
        row = last-row over is;
      }
