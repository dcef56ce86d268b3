-- Climbing from a row to the nearest one before it that is less deep: the rows between stay as they are.
use Rattle.std.proofs.Common.{◌≡◌, ℕ, zero, suc, ◌+◌, ◌-◌, ◌<◌, ◌≤◌, List, [], ◌∷◌, ◌++◌, length, take, drop, get_or, set, nat_lt, if◌then◌else◌, reverse, Some, None, length-take, length-set, subst, append_assoc, inl, inr, refl, sym, ap, ◌∙◌, arith}
use Rattle.std.proofs.lemmas.Bool.{cases_lt}
use Rattle.std.proofs.lemmas.List.{take-append-drop, reverse-append, reverse-reverse, length-reverse, take_more, drop-append-le, take-set, get_or-set_same, take-take, get_or-take, drop-set-lt}
use Rattle.std.proofs.Math.Seq.{get_or-append_seam, drop-append_seam, map-set_same}
use Rattle.xf_tree_rows.specs.declared.rows.Row.{Row}
use Rattle.xf_tree_rows.specs.Rows.{deeper, Sized, SizedBefore, grown, shrunk, tree_of, top_depth, less_deep, parent_row_of, past_row, no_row, depths}
use Rattle.xf_tree_rows.proofs.SizedLemmas.{lt-true, lt-false}
use Rattle.xf_tree_rows.proofs.CutLemmas.{deeper-length, sized-take}
use Rattle.xf_tree_rows.proofs.RowLemmas.{split-at, map-drop}

-- ---- the sizes before a place

turned : (y : Row) (ys tail : List Row) → reverse (y ∷ ys) ++ tail ≡ reverse ys ++ (y ∷ tail)
turned y ys tail = ap (λ l. l ++ tail) (reverse-append (y ∷ []) ys) ∙ append_assoc (reverse ys) (y ∷ []) tail

size-before : (ys tail : List Row) (k : ℕ) → k < length ys → SizedBefore ys tail → (get_or (reverse ys ++ tail) k no_row).size ≡ length (tree_of (drop k (reverse ys ++ tail)))
size-before [] tail k h s = absurd (omega arith)
size-before (y ∷ ys) tail k h s = subst (λ l. (get_or l k no_row).size ≡ length (tree_of (drop k l))) (sym (turned y ys tail)) (elim (cases_lt k (length ys)) [
  | inl l ↦ size-before ys (y ∷ tail) k l s.1
  | inr l ↦
      let is : k ≡ length (reverse ys) = omega (arith, length-reverse ys) in
      let here : get_or (reverse ys ++ (y ∷ tail)) k no_row ≡ y = ap (λ i. get_or (reverse ys ++ (y ∷ tail)) i no_row) is ∙ get_or-append_seam (reverse ys) y tail no_row in
      let later : drop k (reverse ys ++ (y ∷ tail)) ≡ y ∷ tail = ap (λ i. drop i (reverse ys ++ (y ∷ tail))) is ∙ drop-append_seam (reverse ys) (y ∷ tail) in
      let long : length (tree_of (y ∷ tail)) ≡ deeper y.depth tail + 1 = omega (arith, length-take (deeper y.depth tail) tail, deeper-length y.depth tail) in
      ap (λ (r : Row). r.size) here ∙ s.0 ∙ sym long ∙ ap (λ l. length (tree_of l)) (sym later)
])

pub size-above : (rows : List Row) (above at : ℕ) → above < at → at ≤ length rows → SizedBefore (reverse (take at rows)) (drop at rows) → (get_or rows above no_row).size ≡ length (tree_of (drop above rows))
size-above rows above at h l s =
    let us = take at rows in
    let whole : reverse (reverse us) ++ drop at rows ≡ rows = ap (λ r. r ++ drop at rows) (reverse-reverse us) ∙ take-append-drop at rows in
    let few : above < length (reverse us) = omega (arith, length-reverse us, length-take at rows) in
    subst (λ r. (get_or r above no_row).size ≡ length (tree_of (drop above r))) whole (size-before (reverse us) (drop at rows) above few s)

-- only the depths of what stands after them count
deeper-alike : (d : ℕ) (xs ys : List Row) → depths xs ≡ depths ys → deeper d xs ≡ deeper d ys
deeper-alike d [] [] e = refl
deeper-alike d [] (y ∷ ys) e = cc
deeper-alike d (x ∷ xs) [] e = cc
deeper-alike d (x ∷ xs) (y ∷ ys) e =
    let first : x.depth ≡ y.depth = cc in
    let rest : depths xs ≡ depths ys = cc in
    ap (λ k. if nat_lt d k then suc (deeper d xs) else 0) first ∙ ap (λ n. if nat_lt d y.depth then suc n else 0) (deeper-alike d xs ys rest)

before-alike : (ys first second : List Row) → depths first ≡ depths second → SizedBefore ys first → SizedBefore ys second
before-alike [] first second e s = tt
before-alike (y ∷ ys) first second e s =
    (s.0 ∙ ap (λ n. n + 1) (deeper-alike y.depth first second e), before-alike ys (y ∷ first) (y ∷ second) (ap (λ l. y.depth ∷ l) e) s.1)

-- ---- past the rows between

pub past-most : (d : ℕ) (ys : List Row) → past_row (less_deep d ys) ≤ length ys
past-most d [] = omega arith
past-most d (y ∷ ys) = elim (cases_lt y.depth d) [
  | inl l ↦ rw (lt-true y.depth d l) (omega arith)
  | inr l ↦ rw (lt-false y.depth d l) (let i = past-most d ys in omega arith)
]

none-less : (ys : List Row) → less_deep 0 ys ≡ None
none-less [] = refl
none-less (y ∷ ys) = let h : 0 ≤ y.depth = omega arith in rw (lt-false y.depth 0 h) (none-less ys)

-- a top has no parent
pub top-alone : (rows : List Row) (at : ℕ) → at < length rows → (get_or rows at no_row).depth ≡ 0 → None ≡ parent_row_of rows at
top-alone rows at h top =
    let d : top_depth (drop at rows) ≡ 0 = ap top_depth (split-at at rows no_row h) ∙ top in
    sym (ap (λ k. less_deep k (reverse (take at rows))) d ∙ none-less (reverse (take at rows)))

-- a change that leaves a row as it is which is no less deep
abbrev Passes : (ℕ → List Row → List Row → List Row) → Type 0
Passes g = (d : ℕ) (y : Row) (ys tail : List Row) → d ≤ y.depth → g d (y ∷ ys) tail ≡ g d ys (y ∷ tail)

pub between-stay : (g : ℕ → List Row → List Row → List Row) → Passes g → (d e k n : ℕ) (old tail : List Row) → k ≤ length old → d ≤ e → n ≡ past_row (less_deep e (reverse (take k old)))
    → g d (reverse (take k old)) tail ≡ g d (reverse (take n old)) (drop n (take k old) ++ tail)
between-stay g passes d e zero n old tail h low is = rw is refl
between-stay g passes d e (suc k) n old tail h low is =
    let z = get_or old k no_row in
    let zs = reverse (take k old) in
    let next : suc k ≡ k + 1 = omega arith in
    let in_old : k < length old = omega arith in
    let more : take (suc k) old ≡ take k old ++ (z ∷ []) = ap (λ i. take i old) next ∙ take_more old k no_row in_old in
    let back : reverse (take (suc k) old) ≡ z ∷ zs = ap reverse more ∙ reverse-append (take k old) (z ∷ []) in
    let is2 : n ≡ past_row (less_deep e (z ∷ zs)) = is ∙ ap (λ l. past_row (less_deep e l)) back in
    elim (cases_lt z.depth e) [
      | inl l ↦
          let here : n ≡ suc k = (let a : n ≡ past_row (Some (length zs)) = rw (lt-true z.depth e l) at is2 in omega (arith, length-reverse (take k old), length-take k old)) in
          let none : drop n (take (suc k) old) ≡ [] = ap (λ i. drop i (take (suc k) old)) (omega (arith, length-take (suc k) old)) ∙ (drop-all (take (suc k) old)) in
          ap (λ i. g d (reverse (take i old)) tail) (sym here) ∙ ap (λ l. g d (reverse (take n old)) (l ++ tail)) (sym none)
      | inr l ↦
          let a : n ≡ past_row (less_deep e zs) = rw (lt-false z.depth e l) at is2 in
          let least : k ≤ length old = omega arith in
          let few : n ≤ length (take k old) = omega (arith, past-most e zs, length-reverse (take k old)) in
          let low2 : d ≤ z.depth = omega arith in
          let joined : drop n (take k old) ++ (z ∷ tail) ≡ drop n (take (suc k) old) ++ tail =
          sym (append_assoc (drop n (take k old)) (z ∷ []) tail) ∙ ap (λ l. l ++ tail) (sym (drop-append-le n (take k old) (z ∷ []) few) ∙ ap (drop n) (sym more)) in
          ap (λ l. g d l tail) back ∙ passes d z zs tail low2 ∙ between-stay g passes d e k n old (z ∷ tail) least low a ∙ ap (g d (reverse (take n old))) joined
    ]
  where
    drop-all : {X : Type 0} (xs : List X) → drop (length xs) xs ≡ []
    drop-all [] = refl
    drop-all (x ∷ xs) = drop-all xs

pub shrunk-passes : (by : ℕ) → Passes (shrunk by)
shrunk-passes by d y ys tail h = rw (lt-false y.depth d h) refl

pub grown-passes : (by : ℕ) → Passes (grown by)
grown-passes by d y ys tail h = rw (lt-false y.depth d h) refl

-- ---- as far as the climb has come

pub record Climbing (g : ℕ → List Row → List Row → List Row) (old rows : List Row) (at depth left below : ℕ) : Type 0 where
  pub within : left ≤ at
  pub same : take left rows ≡ take left old
  pub alike : depths rows ≡ depths old
  pub so_far : g below (reverse (take left old)) (drop left rows) ≡ g depth (reverse (take at old)) (drop at old)

module _ (g : ℕ → List Row → List Row → List Row) (passes : Passes g) (old rows : List Row) (at depth left below : ℕ) (h : 0 < left) (most : at ≤ length old) (sized : Sized old)
    (c : Climbing g old rows at depth left below) where
  abbrev here : ℕ
  here = left - 1

  long : length rows ≡ length old
  long = sym (length-depths rows) ∙ ap length c.alike ∙ length-depths old
    where
      length-depths : (xs : List Row) → length (depths xs) ≡ length xs
      length-depths [] = refl
      length-depths (x ∷ xs) = ap suc (length-depths xs)

  pub here-within : here < length rows
  here-within = omega (arith, c.within, long)

  same-before : take here rows ≡ take here old
  same-before =
      let l : here ≤ left = omega arith in
      sym (take-take here left rows l) ∙ ap (take here) c.same ∙ take-take here left old l

  pub sized-here : SizedBefore (reverse (take here rows)) (drop here rows)
  sized-here =
      let e : depths (drop here old) ≡ depths (drop here rows) = map-drop (λ (r : Row). r.depth) here old ∙ ap (drop here) (sym c.alike) ∙ sym (map-drop (λ (r : Row). r.depth) here rows) in
      subst (λ l. SizedBefore (reverse l) (drop here rows)) (sym same-before) (before-alike (reverse (take here old)) (drop here old) (drop here rows) e (sized-take here old sized))

  pub row-here : get_or rows here no_row ≡ get_or old here no_row
  row-here =
      let l : here < left = omega arith in
      sym (get_or-take left rows here no_row l) ∙ ap (λ r. get_or r here no_row) c.same ∙ get_or-take left old here no_row l

  -- the row at this place stands in front of what comes after it
  here-next : g below (get_or rows here no_row ∷ reverse (take here old)) (drop left rows) ≡ g depth (reverse (take at old)) (drop at old)
  here-next =
      let next : here + 1 ≡ left = omega arith in
      let in_old : here < length old = omega (arith, c.within) in
      let more : take left old ≡ take here old ++ (get_or old here no_row ∷ []) = ap (λ i. take i old) (sym next) ∙ take_more old here no_row in_old in
      let back : reverse (take left old) ≡ get_or rows here no_row ∷ reverse (take here old) =
      ap reverse more ∙ reverse-append (take here old) (get_or old here no_row ∷ []) ∙ ap (λ r. r ∷ reverse (take here old)) (sym row-here) in
      ap (λ l. g below l (drop left rows)) (sym back) ∙ c.so_far

  pub climb-to : (rows2 : List Row) (below2 n : ℕ) → take here rows2 ≡ take here rows → depths rows2 ≡ depths rows → below2 ≤ (get_or rows here no_row).depth
      → g below2 (reverse (take here old)) (drop here rows2) ≡ g depth (reverse (take at old)) (drop at old) → n ≡ past_row (parent_row_of rows here) → Climbing g old rows2 at depth n below2
  climb-to rows2 below2 n front same_depths low so_far is =
      let y = get_or rows here no_row in
      let top : top_depth (drop here rows) ≡ y.depth = ap top_depth (split-at here rows no_row here-within) in
      let is2 : n ≡ past_row (less_deep y.depth (reverse (take here old))) = is ∙ ap (λ d. past_row (less_deep d (reverse (take here rows)))) top ∙ ap (λ l. past_row (less_deep y.depth (reverse l))) same-before in
      let in_old : here ≤ length old = omega (arith, c.within) in
      let few : n ≤ here = omega (arith, is2, past-most y.depth (reverse (take here old)), length-reverse (take here old), length-take here old) in
      let few_rows : n ≤ length (take here rows2) = omega (arith, ap length (front ∙ same-before), length-take here old) in
      let stay = between-stay g passes below2 y.depth here n old (drop here rows2) in_old low is2 in
      let joined : drop n (take here old) ++ drop here rows2 ≡ drop n rows2 =
      ap (λ l. drop n l ++ drop here rows2) (sym (front ∙ same-before)) ∙ sym (drop-append-le n (take here rows2) (drop here rows2) few_rows) ∙ ap (drop n) (take-append-drop here rows2) in
      record {
        within = omega (arith, c.within);
        same = sym (take-take n here rows2 few) ∙ ap (take n) (front ∙ same-before) ∙ take-take n here old few;
        alike = same_depths ∙ c.alike;
        so_far = ap (g below2 (reverse (take n old))) (sym joined) ∙ sym stay ∙ so_far;
      }

  -- past a row that is not less deep
  pub climb-past : (n : ℕ) → below ≤ (get_or rows here no_row).depth → n ≡ past_row (parent_row_of rows here) → Climbing g old rows at depth n below
  climb-past n low is =
      let y = get_or rows here no_row in
      let next : here + 1 ≡ left = omega arith in
      let sp : drop here rows ≡ y ∷ drop left rows = split-at here rows no_row here-within ∙ ap (λ i. y ∷ drop i rows) next in
      climb-to rows below n refl refl low (ap (g below (reverse (take here old))) sp ∙ sym (passes below y (reverse (take here old)) (drop left rows) low) ∙ here-next) is

  -- to a row that is, which has another size then
  pub climb-over : (n size : ℕ) → (let y = get_or rows here no_row in
      (ys tail : List Row) → g below (y ∷ ys) tail ≡ g y.depth ys (record { key = y.key; size = size; depth = y.depth } ∷ tail)) → n ≡ past_row (parent_row_of rows here)
      → (let y = get_or rows here no_row in Climbing g old (set rows here (record { key = y.key; size = size; depth = y.depth })) at depth n y.depth)
  climb-over n size changes is =
      let y = get_or rows here no_row in
      let v : Row = record { key = y.key; size = size; depth = y.depth } in
      let rows2 = set rows here v in
      let before : here < left = omega arith in
      let next : here + 1 ≡ left = omega arith in
      let in_rows2 : here < length rows2 = omega (arith, here-within, length-set rows here v) in
      let sp : drop here rows2 ≡ v ∷ drop left rows =
      split-at here rows2 no_row in_rows2 ∙ ap (λ r. r ∷ drop (here + 1) rows2) (get_or-set_same rows here v no_row here-within) ∙ ap (λ i. v ∷ drop i rows2) next ∙ ap (λ l. v ∷ l) (drop-set-lt left rows here v before) in
      let low : y.depth ≤ y.depth = omega arith in
      climb-to rows2 y.depth n (take-set rows here v) (map-set_same (λ (r : Row). r.depth) rows here v no_row refl) low
      (ap (g y.depth (reverse (take here old))) sp ∙ sym (changes (reverse (take here old)) (drop left rows)) ∙ here-next) is

pub shrunk-changes : (by d : ℕ) (y : Row) → y.depth < d → (ys tail : List Row) → shrunk by d (y ∷ ys) tail ≡ shrunk by y.depth ys (record { key = y.key; size = y.size - by; depth = y.depth } ∷ tail)
shrunk-changes by d y h ys tail = rw (lt-true y.depth d h) refl

pub grown-changes : (by d : ℕ) (y : Row) → y.depth < d → (ys tail : List Row) → grown by d (y ∷ ys) tail ≡ grown by y.depth ys (record { key = y.key; size = y.size + by; depth = y.depth } ∷ tail)
grown-changes by d y h ys tail = rw (lt-true y.depth d h) refl
