-- A parent's row, the rows between, and a node's place among its siblings.
use Rattle.std.proofs.Common.{◌≡◌, ℕ, zero, suc, ◌+◌, ◌-◌, ◌<◌, ◌≤◌, ◌==◌, Bool, false, List, [], ◌∷◌, ◌++◌, map, length, take, drop, cond, reverse, Some, length-drop, length-take, length-append, append_assoc, subst, inl, inr, refl, sym, ap, ◌∙◌, arith, get_or, take-add}
use Rattle.std.specs.Prelude.{count_by}
use Rattle.std.proofs.lemmas.Bool.{cases_lt}
use Rattle.std.proofs.lemmas.List.{take-append-drop, map-append, drop-drop, reverse-append, reverse-reverse, length-reverse, take_more, get_or-take, get_or-drop}
use Rattle.std.proofs.Math.Seq.{get_or-append_seam}
use Rattle.slab.specs.Slab.{Slab}
use Rattle.xf_tree_rows.specs.declared.rows.Row.{Row}
use Rattle.xf_tree_rows.specs.Rows.{deeper, tree_of, less_deep, parent_row_of, top_depth, no_row, AreSteps, depths, AllDeep}
use Rattle.xf_tree_rows.proofs.SizedLemmas.{lt-true, lt-false}
use Rattle.xf_tree_rows.proofs.CutLemmas.{tree-is-front, deeper-length}
use Rattle.xf_tree_rows.proofs.ParentLemmas.{deep-prefix}
use Rattle.xf_tree_rows.proofs.RowLemmas.{split-at}
use Rattle.xf_tree_contents.specs.Slot.{Slot}
use Rattle.xf_tree_walks.specs.Nodes.{node_of, is_kin, kin_in}
use Rattle.xf_tree_walks.proofs.PlaceLemmas.{tree-size}
use Rattle.xf_tree_walks.proofs.NodeLemmas.{eq-false}
use Rattle.xf_tree_walks.proofs.CountLemmas.{count-append, count-cons}

pub deep-at : (d : ℕ) (xs : List Row) (i : ℕ) → AllDeep d xs → i < length xs → d ≤ (get_or xs i no_row).depth
deep-at d [] i all h = absurd (omega arith)
deep-at d (x ∷ xs) zero all h = all.0
deep-at d (x ∷ xs) (suc i) all h = deep-at d xs i all.1 (omega arith)

-- a row within the tree of an earlier one is deeper
pub inside-deeper : (rows : List Row) (k at : ℕ) → k < at → at < length rows → at < k + length (tree_of (drop k rows)) → (get_or rows k no_row).depth < (get_or rows at no_row).depth
inside-deeper rows k at h l inside =
    let x = get_or rows k no_row in
    let later = drop (k + 1) rows in
    let i = at - (k + 1) in
    let in_rows : k < length rows = omega arith in
    let size = tree-size k rows in_rows in
    let few : suc i ≤ deeper x.depth later = omega arith in
    let all = deep-prefix x.depth (suc i) later few in
    let long : i < length (take (suc i) later) = omega (arith, length-take (suc i) later, deeper-length x.depth later) in
    let small : i < suc i = omega arith in
    let sum : k + 1 + i ≡ at = omega arith in
    let same = get_or-take (suc i) later i no_row small ∙ get_or-drop (k + 1) rows i no_row ∙ ap (λ j. get_or rows j no_row) sum in
    let d = deep-at (x.depth + 1) (take (suc i) later) i all long in
    let e = ap (λ (r : Row). r.depth) same in
    omega arith

-- ---- the parent's row

pub record Above (rows : List Row) (above at : ℕ) : Type 0 where
  pub order : above < at
  pub less : (get_or rows above no_row).depth < (get_or rows at no_row).depth
  pub between : AllDeep (get_or rows at no_row).depth (take (at - (above + 1)) (drop (above + 1) rows))

get-seam : (ys : List Row) (y : Row) (zs : List Row) → get_or (reverse ys ++ (y ∷ zs)) (length ys) no_row ≡ y
get-seam ys y zs = ap (λ n. get_or (reverse ys ++ (y ∷ zs)) n no_row) (sym (length-reverse ys)) ∙ get_or-append_seam (reverse ys) y zs no_row

record FoundAbove (d k at : ℕ) (rows : List Row) : Type 0 where
  order : k < at
  less : (get_or rows k no_row).depth < d
  between : AllDeep d (take (at - (k + 1)) (drop (k + 1) rows))

deep-snoc : (d : ℕ) (xs : List Row) (y : Row) → AllDeep d xs → d ≤ y.depth → AllDeep d (xs ++ (y ∷ []))
deep-snoc d [] y all h = (h, tt)
deep-snoc d (x ∷ xs) y all h = (all.0, deep-snoc d xs y all.1 h)

found-more : (d k : ℕ) (ys : List Row) (y : Row) (tail : List Row) → d ≤ y.depth → FoundAbove d k (length ys) (reverse ys ++ (y ∷ tail)) → FoundAbove d k (length (y ∷ ys)) (reverse ys ++ (y ∷ tail))
found-more d k ys y tail h f =
    let rows = reverse ys ++ (y ∷ tail) in
    let later = drop (k + 1) rows in
    let i = length ys - (k + 1) in
    let o = f.order in
    let long : length rows ≡ length ys + suc (length tail) = omega (arith, length-append (reverse ys) (y ∷ tail), length-reverse ys) in
    let in_later : i < length later = omega (arith, length-drop (k + 1) rows) in
    let sum : k + 1 + i ≡ length ys = omega arith in
    let same : get_or later i no_row ≡ y = get_or-drop (k + 1) rows i no_row ∙ ap (λ j. get_or rows j no_row) sum ∙ get-seam ys y tail in
    let more : take (i + 1) later ≡ take i later ++ (y ∷ []) = take_more later i no_row in_later ∙ ap (λ z. take i later ++ (z ∷ [])) same in
    let n : length (y ∷ ys) - (k + 1) ≡ i + 1 = omega arith in
    record {
      order = omega arith;
      less = f.less;
      between = subst (AllDeep d) (sym (ap (λ j. take j later) n ∙ more)) (deep-snoc d (take i later) y f.between h);
    }

found-above : (d k : ℕ) (ys tail : List Row) → Some k ≡ less_deep d ys → FoundAbove d k (length ys) (reverse ys ++ tail)
found-above d k [] tail e = cc
found-above d k (y ∷ ys) tail e =
    let turn : reverse (y ∷ ys) ++ tail ≡ reverse ys ++ (y ∷ tail) = ap (λ l. l ++ tail) (reverse-append (y ∷ []) ys) ∙ append_assoc (reverse ys) (y ∷ []) tail in
    subst (FoundAbove d k (length (y ∷ ys))) (sym turn) (elim (cases_lt y.depth d) [
      | inl l ↦
          let here : Some k ≡ Some (length ys) = rw (lt-true y.depth d l) at e in
          let is : k ≡ length ys = cc in
          let none : length (y ∷ ys) - (k + 1) ≡ 0 = omega arith in
          let at_k = ap (λ j. get_or (reverse ys ++ (y ∷ tail)) j no_row) is ∙ get-seam ys y tail in
          let depth = ap (λ (r : Row). r.depth) at_k in
          record {
            order = omega arith;
            less = omega arith;
            between = subst (λ j. AllDeep d (take j (drop (k + 1) (reverse ys ++ (y ∷ tail))))) (sym none) tt;
          }
      | inr l ↦ found-more d k ys y tail l (found-above d k ys (y ∷ tail) (rw (lt-false y.depth d l) at e))
    ])

pub above-is : (rows : List Row) (above at : ℕ) → at < length rows → Some above ≡ parent_row_of rows at → Above rows above at
above-is rows above at h e =
    let us = take at rows in
    let d = (get_or rows at no_row).depth in
    let top : top_depth (drop at rows) ≡ d = ap top_depth (split-at at rows no_row h) in
    let f = found-above d above (reverse us) (drop at rows) (e ∙ ap (λ t. less_deep t (reverse us)) top) in
    let whole : reverse (reverse us) ++ drop at rows ≡ rows = ap (λ l. l ++ drop at rows) (reverse-reverse us) ∙ take-append-drop at rows in
    let long : length (reverse us) ≡ at = omega (arith, length-reverse us, length-take at rows) in
    let g = subst (λ k. FoundAbove d above k rows) long (subst (FoundAbove d above (length (reverse us))) whole f) in
    record { order = g.order; less = g.less; between = g.between }

-- the rows between are at least as deep, so they are below the parent
deeper-all : (d n : ℕ) (xs : List Row) → n ≤ length xs → AllDeep (suc d) (take n xs) → n ≤ deeper d xs
deeper-all d zero xs h all = omega arith
deeper-all d (suc n) [] h all = absurd (omega arith)
deeper-all d (suc n) (x ∷ xs) h all = let l : d < x.depth = omega (arith, all.0) in rw (lt-true d x.depth l) (let i = deeper-all d n xs (omega arith) all.1 in omega arith)

deep-less : (d e : ℕ) (xs : List Row) → e ≤ d → AllDeep d xs → AllDeep e xs
deep-less d e [] h all = tt
deep-less d e (x ∷ xs) h all = (omega (arith, all.0), deep-less d e xs h all.1)

pub above-inside : (rows : List Row) (above at : ℕ) → at < length rows → Above rows above at → at < above + length (tree_of (drop above rows))
above-inside rows above at h a =
    let x = get_or rows above no_row in
    let y = get_or rows at no_row in
    let later = drop (above + 1) rows in
    let o = a.order in
    let s = a.less in
    let k = at - (above + 1) in
    let in_later : k < length later = omega (arith, length-drop (above + 1) rows) in
    let sum : above + 1 + k ≡ at = omega arith in
    let same : get_or later k no_row ≡ y = get_or-drop (above + 1) rows k no_row ∙ ap (λ j. get_or rows j no_row) sum in
    let more : take (k + 1) later ≡ take k later ++ (y ∷ []) = take_more later k no_row in_later ∙ ap (λ z. take k later ++ (z ∷ [])) same in
    let all : AllDeep (suc x.depth) (take (k + 1) later) = subst (AllDeep (suc x.depth)) (sym more) (deep-snoc (suc x.depth) (take k later) y (deep-less y.depth (suc x.depth) (take k later) (omega arith) a.between) (omega arith)) in
    let few = deeper-all x.depth (k + 1) later (omega arith) all in
    let in_rows : above < length rows = omega arith in
    omega (arith, tree-size above rows in_rows)

steps-at : (most k : ℕ) (rows : List Row) → AreSteps most (depths rows) → k + 1 < length rows → (get_or rows (k + 1) no_row).depth ≤ suc (get_or rows k no_row).depth
steps-at most k [] a h = absurd (omega arith)
steps-at most zero (x ∷ []) a h = absurd (omega arith)
steps-at most zero (x ∷ (y ∷ ys)) a h = a.1.0
steps-at most (suc k) (x ∷ xs) a h =
    let e : suc k + 1 ≡ suc (k + 1) = omega arith in
    omega (arith, ap (λ j. (get_or (x ∷ xs) j no_row).depth) e, steps-at (suc x.depth) k xs a.1 (omega arith))

-- a child is one deeper than its parent
pub child-depth : (rows : List Row) (above at : ℕ) → at < length rows → AreSteps 0 (depths rows) → Above rows above at → (get_or rows at no_row).depth ≡ (get_or rows above no_row).depth + 1
child-depth rows above at h steps a =
    let o = a.order in
    let s = a.less in
    let next : above + 1 < length rows = omega arith in
    let st = steps-at 0 above rows steps next in
    elim (cases_lt (above + 1) at) [
      | inl l ↦
          let k = at - (above + 1) in
          let later = drop (above + 1) rows in
          let some : 0 < length (take k later) = omega (arith, length-take k later, length-drop (above + 1) rows) in
          let small : 0 < k = omega arith in
          let zero_sum : above + 1 + 0 ≡ above + 1 = omega arith in
          let same = get_or-take k later 0 no_row small ∙ get_or-drop (above + 1) rows 0 no_row ∙ ap (λ j. get_or rows j no_row) zero_sum in
          let d = deep-at (get_or rows at no_row).depth (take k later) 0 a.between some in
          let e = ap (λ (r : Row). r.depth) same in
          omega arith
      | inr l ↦
          let is : at ≡ above + 1 = omega arith in
          let e = ap (λ j. (get_or rows j no_row).depth) is in
          omega arith
    ]

-- ---- counting siblings

kin-none : (s : Slab Slot) (d : ℕ) (w : Bool) (xs : List Row) → AllDeep (suc d) xs → kin_in s d w xs ≡ 0
kin-none s d w [] all = refl
kin-none s d w (x ∷ xs) all =
    let no : (x.depth == d) ≡ false = eq-false x.depth d (λ e. let z : ⊥ = omega (arith, all.0) in z) in
    count-cons (is_kin d w) (node_of s x) (map (node_of s) xs) ∙ rw no (omega (arith, kin-none s d w xs all.1))

kin-append : (s : Slab Slot) (d : ℕ) (w : Bool) (xs ys : List Row) → kin_in s d w (xs ++ ys) ≡ kin_in s d w xs + kin_in s d w ys
kin-append s d w xs ys = ap (count_by (is_kin d w)) (map-append (node_of s) xs ys) ∙ count-append (is_kin d w) (map (node_of s) xs) (map (node_of s) ys)

-- with the tree at a place one row more is asked
pub kin-skip : (s : Slab Slot) (d : ℕ) (w : Bool) (rows : List Row) (from next end : ℕ) → from ≤ next → next < length rows → end ≡ next + length (tree_of (drop next rows))
    → d ≤ (get_or rows next no_row).depth
    → kin_in s d w (take (end - from) (drop from rows)) ≡ kin_in s d w (take (next - from) (drop from rows)) + cond (is_kin d w (node_of s (get_or rows next no_row))) 1 0
kin-skip s d w rows from next end h l e deep =
    let x = get_or rows next no_row in
    let xs = drop (next + 1) rows in
    let n = length (tree_of (drop next rows)) in
    let rest = take (deeper x.depth xs) xs in
    let sp = split-at next rows no_row l in
    let sum : end - from ≡ (next - from) + n = omega arith in
    let back : from + (next - from) ≡ next = omega arith in
    let part : take (end - from) (drop from rows) ≡ take (next - from) (drop from rows) ++ (x ∷ rest) =
    ap (λ k. take k (drop from rows)) sum ∙ take-add (next - from) n (drop from rows)
    ∙ ap (λ z. take (next - from) (drop from rows) ++ take n z) (drop-drop (next - from) from rows ∙ ap (λ k. drop k rows) back)
    ∙ ap (λ z. take (next - from) (drop from rows) ++ z) ((tree-is-front (drop next rows) n refl).0 ∙ ap tree_of sp) in
    let few : deeper x.depth xs ≤ deeper x.depth xs = omega arith in
    let all = deep-prefix x.depth (deeper x.depth xs) xs few in
    let none = kin-none s d w rest (deep-less (x.depth + 1) (suc d) rest (omega arith) all) in
    let c = count-cons (is_kin d w) (node_of s x) (map (node_of s) rest) in
    ap (kin_in s d w) part ∙ kin-append s d w (take (next - from) (drop from rows)) (x ∷ rest) ∙ (omega (arith, c, none))

-- ---- a place among siblings

-- where something stands within the tree at a place, there is a row at that place or something before it
pub above-within : (rows : List Row) (above at : ℕ) → above < at → at < above + length (tree_of (drop above rows)) → above < length rows
above-within [] zero at o h = absurd (omega arith)
above-within [] (suc above) at o h = absurd (omega arith)
above-within (x ∷ xs) zero at o h = omega arith
above-within (x ∷ xs) (suc above) zero o h = absurd (omega arith)
above-within (x ∷ xs) (suc above) (suc at) o h = let i = above-within xs above at (omega arith) (omega arith) in omega arith
