-- A root put over a tree: the rows.
use Rattle.std.proofs.Common.{◌≡◌, ℕ, zero, suc, ◌+◌, ◌-◌, ◌<◌, ◌≤◌, ◌^◌, List, [], ◌∷◌, ◌++◌, map, length, take, drop, get_or, append_assoc, append-nil, refl, sym, ap, ◌∙◌, subst, inl, inr, arith, length-append, length-take, length-drop, take-add}
use Rattle.std.specs.List.{All}
use Rattle.std.proofs.lemmas.Bool.{cases_lt}
use Rattle.std.proofs.lemmas.List.{take-append-drop, length-map, take_at, drop_at}
use Rattle.xf_tree_rows.specs.declared.rows.Row.{Row}
use Rattle.xf_tree_rows.specs.Rows.{Sized, deeper, deepened, deepened_part, rotated, tree_of, after_tree, rest_of, IsRooted, AreSteps, depths, no_row}
use Rattle.xf_tree_rows.proofs.SizedLemmas.{lt-true, lt-false, sized-append, sized-front}
use Rattle.xf_tree_rows.proofs.MoveLemmas.{rotated-parts}
use Rattle.xf_tree_rows.proofs.CutLemmas.{all-deep-zero, tree-parts, stops-after}
use Rattle.xf_tree_rows.proofs.RowLemmas.{split-at}

pub rooted-steps : (place from last : ℕ) (old one two three : List Row) → place ≤ from → from ≤ last → length old ≡ last + 1
    → one ≡ deepened_part from last 1 old → two ≡ rotated from last (last + 1) one → three ≡ rotated place from (last + 1) two → IsRooted place from old three
rooted-steps place from last old one two three h k len is_one is_two is_three =
    let us = take place old in
    let vs = take (from - place) (drop place old) in
    let ms = take (last - from) (drop from old) in
    let low = map (deepened 1) ms in
    let zs = drop last old in
    let front : take from old ≡ us ++ vs = take-front place from old h in
    let o : one ≡ (us ++ vs) ++ (low ++ (zs ++ [])) = is_one ∙ ap (λ l. l ++ (low ++ zs)) front ∙ ap (λ l. (us ++ vs) ++ (low ++ l)) (sym (append-nil zs)) in
    let lu : place ≡ length us = omega (arith, length-take place old) in
    let lv : from ≡ length (us ++ vs) = omega (arith, ap length (sym front), length-take from old) in
    let lm : last ≡ length (us ++ vs) + length low = omega (arith, length-map ms (deepened 1), length-take (last - from) (drop from old), length-drop from old) in
    let lz : last + 1 ≡ last + length zs = omega (arith, length-drop last old) in
    let t : two ≡ (us ++ vs) ++ ((zs ++ low) ++ []) = is_two ∙ ap (rotated from last (last + 1)) o ∙ rotated-parts (us ++ vs) low zs [] from last (last + 1) lv lm lz in
    let t2 : two ≡ us ++ (vs ++ ((zs ++ low) ++ [])) = t ∙ append_assoc us vs ((zs ++ low) ++ []) in
    let lv2 : from ≡ length us + length vs = omega (arith, length-append us vs) in
    let lz2 : last + 1 ≡ from + length (zs ++ low) = omega (arith, length-append zs low, length-drop last old, length-map ms (deepened 1), length-take (last - from) (drop from old), length-drop from old) in
    let r : three ≡ us ++ (((zs ++ low) ++ vs) ++ []) = is_three ∙ ap (rotated place from (last + 1)) t2 ∙ rotated-parts us vs (zs ++ low) [] place from (last + 1) lu lv2 lz2 in
    let l : last ≡ length old - 1 = omega arith in
    r ∙ ap (λ l. us ++ l) (append-nil ((zs ++ low) ++ vs))
    ∙ ap (λ n. us ++ ((drop n old ++ map (deepened 1) (take (n - from) (drop from old))) ++ vs)) l
  where
    take-front : {X : Type 0} (a b : ℕ) (xs : List X) → a ≤ b → take b xs ≡ take a xs ++ take (b - a) (drop a xs)
    take-front a b xs h = let s : a + (b - a) ≡ b = omega arith in ap (λ n. take n xs) (sym s) ∙ take-add a (b - a) xs

pub last-moved : (at end : ℕ) (old new : List Row) → at < length old → end ≡ at + length (tree_of (drop at old)) → end ≤ length old → new ≡ rotated at end (length old) old
    → new ≡ take at old ++ (after_tree (drop at old) ++ tree_of (drop at old))
last-moved at end old new h e within is =
    let here = drop at old in
    let us = take at old in
    let tree = tree_of here in
    let after = after_tree here in
    let whole : old ≡ us ++ (tree ++ (after ++ [])) = sym (take-append-drop at old) ∙ ap (λ l. us ++ l) (sym (tree-parts here) ∙ ap (λ l. tree ++ l) (sym (append-nil after))) in
    let lu : at ≡ length us = omega (arith, length-take at old) in
    let lt : end ≡ length us + length tree = omega arith in
    let la : length old ≡ end + length after = omega (arith, ap length whole, length-append us (tree ++ (after ++ [])), length-append tree (after ++ []), ap length (append-nil after)) in
    is ∙ ap (rotated at end (length old)) whole ∙ rotated-parts us tree after [] at end (length old) lu lt la ∙ ap (λ l. us ++ l) (append-nil (after ++ tree))

-- ---- the parts that are put together

pub rooted-is : (place from : ℕ) (W T rows2 new : List Row) (R : Row) → rows2 ≡ (W ++ T) ++ (R ∷ []) → from ≡ length W → place ≤ from → IsRooted place from rows2 new
    → new ≡ take place W ++ ((R ∷ map (deepened 1) T) ++ drop place W)
rooted-is place from W T rows2 new R is lf h rooted =
    let A = take place W in
    let B = drop place W in
    let last = length rows2 - 1 in
    let len : length rows2 ≡ length W + length T + 1 = omega (arith, ap length is, length-append (W ++ T) (R ∷ []), length-append W T) in
    let ll : last ≡ length (W ++ T) = omega (arith, length-append W T) in
    let la : place ≡ length A = omega (arith, length-take place W) in
    let lb : from - place ≡ length B = omega (arith, length-drop place W) in
    let lt : last - from ≡ length T = omega arith in
    let d1 : drop last rows2 ≡ R ∷ [] = ap (drop last) is ∙ drop_at (W ++ T) (R ∷ []) last (sym ll) in
    let w2 : rows2 ≡ W ++ (T ++ (R ∷ [])) = is ∙ append_assoc W T (R ∷ []) in
    let d2 : drop from rows2 ≡ T ++ (R ∷ []) = ap (drop from) w2 ∙ drop_at W (T ++ (R ∷ [])) from (sym lf) in
    let t2 : take (last - from) (drop from rows2) ≡ T = ap (take (last - from)) d2 ∙ take_at T (R ∷ []) (last - from) (sym lt) in
    let w3 : rows2 ≡ A ++ (B ++ (T ++ (R ∷ []))) = w2 ∙ ap (λ l. l ++ (T ++ (R ∷ []))) (sym (take-append-drop place W)) ∙ append_assoc A B (T ++ (R ∷ [])) in
    let t3 : take place rows2 ≡ A = ap (take place) w3 ∙ take_at A (B ++ (T ++ (R ∷ []))) place (sym la) in
    let d3 : drop place rows2 ≡ B ++ (T ++ (R ∷ [])) = ap (drop place) w3 ∙ drop_at A (B ++ (T ++ (R ∷ []))) place (sym la) in
    let t4 : take (from - place) (drop place rows2) ≡ B = ap (take (from - place)) d3 ∙ take_at B (T ++ (R ∷ [])) (from - place) (sym lb) in
    rooted
    ∙ ap (λ l. l ++ ((drop last rows2 ++ map (deepened 1) (take (last - from) (drop from rows2))) ++ take (from - place) (drop place rows2))) t3
    ∙ ap (λ l. A ++ ((l ++ map (deepened 1) (take (last - from) (drop from rows2))) ++ take (from - place) (drop place rows2))) d1
    ∙ ap (λ l. A ++ (((R ∷ []) ++ map (deepened 1) l) ++ take (from - place) (drop place rows2))) t2
    ∙ ap (λ l. A ++ (((R ∷ []) ++ map (deepened 1) T) ++ l)) t4

pub rest-front : (at from : ℕ) (old rows1 : List Row) → rows1 ≡ take at old ++ (after_tree (drop at old) ++ tree_of (drop at old)) → from + length (tree_of (drop at old)) ≡ length old
    → (rows1 ≡ (take at old ++ after_tree (drop at old)) ++ tree_of (drop at old)) × (from ≡ length (take at old ++ after_tree (drop at old))) × (take from rows1 ≡ take at old ++ after_tree (drop at old))
rest-front at from old rows1 is sum =
    let W = take at old ++ after_tree (drop at old) in
    let T = tree_of (drop at old) in
    let e : rows1 ≡ W ++ T = is ∙ sym (append_assoc (take at old) (after_tree (drop at old)) T) in
    let a = length-append (take at old) (after_tree (drop at old)) in
    let b = ap length (sym (take-append-drop at old)) ∙ length-append (take at old) (drop at old) in
    let c = ap length (sym (tree-parts (drop at old))) ∙ length-append T (after_tree (drop at old)) in
    let l : from ≡ length W = omega arith in
    (e, l, ap (take from) e ∙ take_at W T from (sym l))

-- ---- depths are small

abbrev pub AllUnder : ℕ → List Row → Type 0
AllUnder b [] = Unit {0}
AllUnder b (x ∷ xs) = (x.depth < b) × AllUnder b xs

pub under-steps : (b most : ℕ) (xs : List Row) → AreSteps most (depths xs) → most + length xs ≤ b → AllUnder b xs
under-steps b most [] a h = tt
under-steps b most (x ∷ xs) a h = (omega (arith, a.0), under-steps b (suc x.depth) xs a.1 (omega (arith, a.0)))

pub under-append : (b : ℕ) (xs ys : List Row) → AllUnder b xs → AllUnder b ys → AllUnder b (xs ++ ys)
under-append b [] ys p q = q
under-append b (x ∷ xs) ys p q = (p.0, under-append b xs ys p.1 q)

pub under-parts : (b : ℕ) (xs ys : List Row) → AllUnder b (xs ++ ys) → AllUnder b xs × AllUnder b ys
under-parts b [] ys p = (tt, p)
under-parts b (x ∷ xs) ys p = let i = under-parts b xs ys p.1 in ((p.0, i.0), i.1)

pub under-index : (b : ℕ) (xs : List Row) (k : ℕ) (d : Row) → AllUnder b xs → k < length xs → (get_or xs k d).depth < b
under-index b [] k d p h = absurd (omega arith)
under-index b (x ∷ xs) zero d p h = p.0
under-index b (x ∷ xs) (suc k) d p h = under-index b xs k d p.1 (omega arith)

pub depths-fit : (at : ℕ) (old rows2 : List Row) (R : Row) → AreSteps 0 (depths old) → length old < 2 ^ 31 → R.depth ≡ 0
    → rows2 ≡ ((take at old ++ after_tree (drop at old)) ++ tree_of (drop at old)) ++ (R ∷ []) → All (λ (r : Row). r.depth + 1 < 2 ^ 32) rows2
depths-fit at old rows2 R steps few zero_depth is = λ k d h.
    let b = 2 ^ 31 in
    let all = under-steps b 0 old steps (omega arith) in
    let p = under-parts b (take at old) (drop at old) (subst (AllUnder b) (sym (take-append-drop at old)) all) in
    let q = under-parts b (tree_of (drop at old)) (after_tree (drop at old)) (subst (AllUnder b) (sym (tree-parts (drop at old))) p.1) in
    let root : R.depth < b = omega arith in
    let whole = under-append b ((take at old ++ after_tree (drop at old)) ++ tree_of (drop at old)) (R ∷ [])
    (under-append b (take at old ++ after_tree (drop at old)) (tree_of (drop at old)) (under-append b (take at old) (after_tree (drop at old)) p.0 q.1) q.0) (root, tt) in
    let u = under-index b rows2 k d (subst (AllUnder b) (sym is) whole) h in
    omega arith

-- ---- the rows but those of a top's tree

pub first-zero : (rows : List Row) (more : ℕ) → deeper 0 rows ≡ 0 → AreSteps more (depths rows) → (most : ℕ) → AreSteps most (depths rows)
first-zero [] more stops a most = tt
first-zero (r ∷ rs) more stops a most = elim (cases_lt 0 r.depth) [
  | inl l ↦ absurd (let z : suc (deeper 0 rs) ≡ 0 = rw (lt-true 0 r.depth l) at stops in omega arith)
  | inr l ↦ (omega arith, a.1)
]

pub rest-sized : (at : ℕ) (old : List Row) → at < length old → (get_or old at no_row).depth ≡ 0 → Sized old
    → Sized (rest_of at old) × (deeper 0 (after_tree (drop at old)) ≡ 0) × Sized (tree_of (drop at old))
rest-sized at old h top sized =
    let us = take at old in
    let x = get_or old at no_row in
    let xs = drop (at + 1) old in
    let sp = split-at at old no_row h in
    let whole : old ≡ us ++ (tree_of (drop at old) ++ after_tree (drop at old)) = sym (take-append-drop at old) ∙ ap (λ l. us ++ l) (sym (tree-parts (drop at old))) in
    let stops : deeper 0 (after_tree (drop at old)) ≡ 0 = ap (λ l. deeper 0 (after_tree l)) sp ∙ ap (λ d. deeper d (drop (deeper x.depth xs) xs)) (sym top) ∙ stops-after x.depth xs in
    let first : deeper 0 (tree_of (drop at old) ++ after_tree (drop at old)) ≡ 0 = ap (deeper 0) (tree-parts (drop at old)) ∙ ap (deeper 0) sp ∙ rw (lt-false 0 x.depth (omega arith)) refl in
    let a = sized-front 0 us (tree_of (drop at old) ++ after_tree (drop at old)) (all-deep-zero us) first (subst Sized whole sized) in
    let b = sized-front 0 (tree_of (drop at old)) (after_tree (drop at old)) (all-deep-zero (tree_of (drop at old))) stops a.1 in
    (sized-append 0 us (after_tree (drop at old)) (all-deep-zero us) stops a.0 b.1, stops, b.0)
