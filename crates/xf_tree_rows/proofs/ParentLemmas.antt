-- The nearest row before a place that is less deep is the parent's.
use Rattle.std.proofs.Common.{◌≡◌, ℕ, zero, suc, ◌+◌, ◌-◌, ◌<◌, ◌≤◌, List, [], ◌∷◌, ◌++◌, length, take, drop, reverse, Some, None, length-take, subst, append_assoc, inl, inr, refl, sym, ap, ◌∙◌, arith, get_or}
use Rattle.std.proofs.lemmas.Bool.{cases_lt}
use Rattle.std.proofs.lemmas.List.{take-append-drop, reverse-append, length-reverse}
use Rattle.std.proofs.Math.Seq.{take-append-add}
use Rattle.xf_tree_rows.specs.declared.rows.Row.{Row}
use Rattle.xf_tree_rows.specs.Rows.{deeper, tree_of, top_depth, less_deep, parent_row_of, no_row, AllDeep}
use Rattle.xf_tree_rows.proofs.SizedLemmas.{lt-true, lt-false}
use Rattle.xf_tree_rows.proofs.RowLemmas.{split-at}

less-none : (ys : List Row) → less_deep 0 ys ≡ None
less-none [] = refl
less-none (y ∷ ys) = let l : 0 ≤ y.depth = omega arith in rw (lt-false y.depth 0 l) (less-none ys)

-- nothing is less deep than a top
pub top-alone : (rows : List Row) (at : ℕ) → at < length rows → (get_or rows at no_row).depth ≡ 0 → None ≡ parent_row_of rows at
top-alone rows at h e = sym (ap (λ d. less_deep d (reverse (take at rows))) (ap top_depth (split-at at rows no_row h) ∙ e) ∙ less-none (reverse (take at rows)))

-- a hint that the sizes bear out: the place is within the tree of a row one less deep
pub deep-prefix : (d k : ℕ) (xs : List Row) → k ≤ deeper d xs → AllDeep (d + 1) (take k xs)
deep-prefix d zero xs h = tt
deep-prefix d (suc k) [] h = tt
deep-prefix d (suc k) (x ∷ xs) h =
    elim (cases_lt d x.depth) [
      | inl l ↦ let m : d + 1 ≤ x.depth = omega arith in
          let g : suc k ≤ suc (deeper d xs) = rw (lt-true d x.depth l) at h in
          let i : k ≤ deeper d xs = omega arith in (m, deep-prefix d k xs i)
      | inr l ↦ let g : suc k ≤ 0 = rw (lt-false d x.depth l) at h in absurd (omega arith)
    ]

deep-append : (d : ℕ) (xs ys : List Row) → AllDeep d xs → AllDeep d ys → AllDeep d (xs ++ ys)
deep-append d [] ys p q = q
deep-append d (x ∷ xs) ys p q = (p.0, deep-append d xs ys p.1 q)

pub deep-reverse : (d : ℕ) (xs : List Row) → AllDeep d xs → AllDeep d (reverse xs)
deep-reverse d [] p = tt
deep-reverse d (x ∷ xs) p = subst (AllDeep d) (sym (reverse-append (x ∷ []) xs)) (deep-append d (reverse xs) (x ∷ []) (deep-reverse d xs p.1) (p.0, tt))

less-skips : (d : ℕ) (ms ys : List Row) → AllDeep d ms → less_deep d (ms ++ ys) ≡ less_deep d ys
less-skips d [] ys p = refl
less-skips d (m ∷ ms) ys p = rw (lt-false m.depth d p.0) (less-skips d ms ys p.1)

pub hint-parent : (rows : List Row) (above at : ℕ) → above < at → at < length rows → (get_or rows above no_row).depth < (get_or rows at no_row).depth
    → (get_or rows at no_row).depth - (get_or rows above no_row).depth ≡ 1
    → at < above + length (tree_of (drop above rows)) → Some above ≡ parent_row_of rows at
hint-parent rows above at h l less one in_tree =
    let x = get_or rows above no_row in
    let later = drop (above + 1) rows in
    let k = at - (above + 1) in
    let mid = take k later in
    let lr : above < length rows = omega arith in
    let sp : drop above rows ≡ x ∷ later = split-at above rows no_row lr in
    let size : above + length (tree_of (x ∷ later)) ≡ above + length (tree_of (drop above rows)) = ap (λ r. above + length (tree_of r)) (sym sp) in
    let few : k ≤ deeper x.depth later = omega (arith, length-take (deeper x.depth later) later) in
    let all : AllDeep (x.depth + 1) mid = deep-prefix x.depth k later few in
    let deep : (get_or rows at no_row).depth ≡ x.depth + 1 = omega arith in
    let top : top_depth (drop at rows) ≡ x.depth + 1 = ap top_depth (split-at at rows no_row l) ∙ deep in
    let whole : rows ≡ take above rows ++ (x ∷ later) = sym (take-append-drop above rows) ∙ ap (λ r. take above rows ++ r) sp in
    let la : length (take above rows) ≡ above = omega (arith, length-take above rows) in
    let front : take at rows ≡ take above rows ++ (x ∷ mid) =
    let sum : at ≡ length (take above rows) + suc k = omega (arith, la) in
    ap (take at) whole ∙ ap (λ n. take n (take above rows ++ (x ∷ later))) sum ∙ take-append-add (take above rows) (x ∷ later) (suc k) in
    let back : reverse (take at rows) ≡ reverse mid ++ (x ∷ reverse (take above rows)) =
    ap reverse front ∙ reverse-append (take above rows) (x ∷ mid) ∙ ap (λ r. r ++ reverse (take above rows)) (reverse-append (x ∷ []) mid) ∙ append_assoc (reverse mid) (x ∷ []) (reverse (take above rows)) in
    let skip = less-skips (x.depth + 1) (reverse mid) (x ∷ reverse (take above rows)) (deep-reverse (x.depth + 1) mid all) in
    let lt : x.depth < x.depth + 1 = omega arith in
    let found : less_deep (x.depth + 1) (x ∷ reverse (take above rows)) ≡ Some above = rw (lt-true x.depth (x.depth + 1) lt) (ap Some (length-reverse (take above rows) ∙ la)) in
    sym (ap (λ t. less_deep t (reverse (take at rows))) top ∙ ap (less_deep (x.depth + 1)) back ∙ skip ∙ found)
