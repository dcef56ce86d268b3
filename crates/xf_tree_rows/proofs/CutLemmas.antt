-- What moving a tree to the end does to the sizes.
use Rattle.std.proofs.Common.{◌≡◌, ℕ, zero, suc, ◌+◌, ◌-◌, ◌<◌, ◌≤◌, List, [], ◌∷◌, ◌++◌, map, length, take, drop, get_or, reverse, subst, append_assoc, inl, inr, refl, sym, ap, ◌∙◌, arith, length-drop, length-take, length-append}
use Rattle.std.proofs.lemmas.Bool.Decides.{nat_tests}
use Rattle.std.proofs.lemmas.Bool.{cases_lt}
use Rattle.std.proofs.lemmas.List.{take-append-drop, reverse-reverse, length-reverse, take_at, drop_at, length-map, append-nil, drop-drop}
use Rattle.xf_tree_rows.specs.declared.rows.Row.{Row}
use Rattle.xf_tree_rows.specs.Rows.{deeper, Sized, SizedBefore, shrunk, raised, tree_of, after_tree, top_depth, rotated, IsCut, raised_part, AllDeep}
use Rattle.xf_tree_rows.proofs.MoveLemmas.{rotated-parts}
use Rattle.xf_tree_rows.proofs.SizedLemmas.{lt-true, lt-false, Longer, deeper-append, sized-append, sized-front, longer-tree, shrunk-sized, sized-before}

abbrev pub no_row : Row
no_row = record { key = 0; size = 0; depth = 0 }

pub tree-parts : (xs : List Row) → tree_of xs ++ after_tree xs ≡ xs
tree-parts [] = refl
tree-parts (x ∷ xs) = ap (λ l. x ∷ l) (take-append-drop (deeper x.depth xs) xs)

pub deeper-length : (d : ℕ) (xs : List Row) → deeper d xs ≤ length xs
deeper-length d [] = omega arith
deeper-length d (x ∷ xs) = let i = deeper-length d xs in grind (arith, nat_tests)

pub sized-drop : (at : ℕ) (xs : List Row) → Sized xs → Sized (drop at xs)
sized-drop zero xs s = s
sized-drop (suc at) [] s = s
sized-drop (suc at) (x ∷ xs) s = sized-drop at xs s.1

pub sized-take : (at : ℕ) (xs : List Row) → Sized xs → SizedBefore (reverse (take at xs)) (drop at xs)
sized-take at xs s =
    let e : reverse (reverse (take at xs)) ++ drop at xs ≡ xs = ap (λ l. l ++ drop at xs) (reverse-reverse (take at xs)) ∙ take-append-drop at xs in
    (sized-before (reverse (take at xs)) (drop at xs) (subst Sized (sym e) s)).0

pub size-here : (xs : List Row) → (d : Row) → 0 < length xs → Sized xs → (get_or xs 0 d).size ≡ length (tree_of xs)
size-here [] d h s = absurd (omega arith)
size-here (x ∷ xs) d h s = let i = deeper-length x.depth xs in omega (arith, s.0, length-take (deeper x.depth xs) xs)

pub all-deeper : (d : ℕ) (xs : List Row) → AllDeep d (take (deeper d xs) xs)
all-deeper d [] = tt
all-deeper d (x ∷ xs) =
    elim (cases_lt d x.depth) [ inl h ↦ rw (lt-true d x.depth h) (let l : d ≤ x.depth = omega arith in (l, all-deeper d xs)) | inr h ↦ rw (lt-false d x.depth h) tt ]

pub stops-after : (d : ℕ) (xs : List Row) → deeper d (drop (deeper d xs) xs) ≡ 0
stops-after d [] = refl
stops-after d (x ∷ xs) =
    elim (cases_lt d x.depth) [ inl h ↦ rw (lt-true d x.depth h) (stops-after d xs) | inr h ↦ rw (lt-false d x.depth h) (rw (lt-false d x.depth h) refl) ]

pub size-at : (at : ℕ) (xs : List Row) (d : Row) → at < length xs → Sized xs → (get_or xs at d).size ≡ length (tree_of (drop at xs))
size-at zero xs d h s = size-here xs d h s
size-at (suc at) [] d h s = absurd (omega arith)
size-at (suc at) (x ∷ xs) d h s = size-at at xs d (omega arith) s.1

tree-length : (xs : List Row) → length (tree_of xs) ≤ length xs
tree-length [] = omega arith
tree-length (x ∷ xs) = omega (arith, length-take (deeper x.depth xs) xs)

pub tree-within : (at : ℕ) (xs : List Row) → at < length xs → at + length (tree_of (drop at xs)) ≤ length xs
tree-within at xs h = omega (arith, tree-length (drop at xs), length-drop at xs)

-- rows raised by the depth of their top, as a tree of their own
pub raised-deeper : (by e : ℕ) (xs : List Row) → by ≤ e → AllDeep by xs → deeper (e - by) (map (raised by) xs) ≡ deeper e xs
raised-deeper by e [] h all = refl
raised-deeper by e (x ∷ xs) h all =
    elim (cases_lt e x.depth) [
      | inl l ↦
          let m : e - by < x.depth - by = omega arith in
          rw (lt-true e x.depth l, lt-true (e - by) (x.depth - by) m) (ap suc (raised-deeper by e xs h all.1))
      | inr l ↦
          let m : x.depth - by ≤ e - by = omega arith in
          rw (lt-false e x.depth l, lt-false (e - by) (x.depth - by) m) refl
    ]

pub raised-sized : (by : ℕ) (xs : List Row) → AllDeep by xs → Sized xs → Sized (map (raised by) xs)
raised-sized by [] all s = tt
raised-sized by (x ∷ xs) all s =
    (s.0 ∙ ap (λ n. n + 1) (sym (raised-deeper by x.depth xs all.0 all.1)), raised-sized by xs all.1 s.1)

-- what starts a tree of its own is below nothing
raised-stops : (e : ℕ) (x : Row) (xs : List Row) → deeper e (map (raised x.depth) (x ∷ xs)) ≡ 0
raised-stops e x xs = let l : x.depth - x.depth ≤ e = omega arith in rw (lt-false e (x.depth - x.depth) l) refl

pub all-deep-zero : (xs : List Row) → AllDeep 0 xs
all-deep-zero [] = tt
all-deep-zero (x ∷ xs) = let l : 0 ≤ x.depth = omega arith in (l, all-deep-zero xs)

pub cut-sized : (ys here : List Row) → 0 < length here → SizedBefore ys here → Sized here
    → Sized (shrunk (length (tree_of here)) (top_depth here) ys (after_tree here ++ map (raised (top_depth here)) (tree_of here)))
cut-sized ys [] h before s = absurd (omega arith)
cut-sized ys (x ∷ xs) h before s =
    let rest = take (deeper x.depth xs) xs in
    let after = drop (deeper x.depth xs) xs in
    let low = map (raised x.depth) (x ∷ rest) in
    let all : AllDeep x.depth rest = all-deeper x.depth xs in
    let top : x.depth ≤ x.depth = omega arith in
    let whole : AllDeep x.depth (x ∷ rest) = (top, all) in
    let stops : deeper x.depth after ≡ 0 = stops-after x.depth xs in
    let e : (x ∷ rest) ++ after ≡ x ∷ xs = tree-parts (x ∷ xs) in
    let both = sized-front x.depth (x ∷ rest) after whole stops (subst Sized (sym e) s) in
    let second : Sized (after ++ low) = sized-append 0 after low (all-deep-zero after) (raised-stops 0 x rest) both.1 (raised-sized x.depth (x ∷ rest) whole both.0) in
    let longer : Longer (length rest + 1) x.depth after (x ∷ xs) = subst (Longer (length rest + 1) x.depth after) e (longer-tree x rest after all stops) in
    let same : (f : ℕ) → deeper f (after ++ low) ≡ deeper f after = λ f. deeper-append f after low (raised-stops f x rest) in
    let more : Longer (length (x ∷ rest)) x.depth (after ++ low) (x ∷ xs) = record {
      is_open = λ f l. longer.is_open f l ∙ (let k = same f in omega arith);
      shut = λ f l. longer.shut f l ∙ sym (same f);
    } in
    shrunk-sized (length (x ∷ rest)) x.depth ys (x ∷ xs) (after ++ low) more before second

pub tree-is-front : (xs : List Row) (n : ℕ) → n ≡ length (tree_of xs) → (take n xs ≡ tree_of xs) × (drop n xs ≡ after_tree xs)
tree-is-front xs n e = (
  ap (take n) (sym (tree-parts xs)) ∙ take_at (tree_of xs) (after_tree xs) n (sym e),
  ap (drop n) (sym (tree-parts xs)) ∙ drop_at (tree_of xs) (after_tree xs) n (sym e),
)

-- what stands after the rows is not looked at
pub shrunk-tail : (by d : ℕ) (ys tail : List Row) → shrunk by d ys tail ≡ shrunk by d ys [] ++ tail
shrunk-tail by d [] tail = refl
shrunk-tail by d (y ∷ ys) tail =
    let small : Row = record { key = y.key; size = y.size - by; depth = y.depth } in
    elim (cases_lt y.depth d) [
      | inl h ↦ rw (lt-true y.depth d h)
          (shrunk-tail by y.depth ys (small ∷ tail) ∙ sym (append_assoc (shrunk by y.depth ys []) (small ∷ []) tail) ∙ ap (λ l. l ++ tail) (sym (shrunk-tail by y.depth ys (small ∷ []))))
      | inr h ↦ rw (lt-false y.depth d h) (shrunk-tail by d ys (y ∷ tail) ∙ sym (append_assoc (shrunk by d ys []) (y ∷ []) tail) ∙ ap (λ l. l ++ tail) (sym (shrunk-tail by d ys (y ∷ []))))
    ]

pub shrunk-length : (by d : ℕ) (ys tail : List Row) → length (shrunk by d ys tail) ≡ length ys + length tail
shrunk-length by d [] tail = omega arith
shrunk-length by d (y ∷ ys) tail = elim (cases_lt y.depth d) [
  | inl h ↦ rw (lt-true y.depth d h) (omega (arith, shrunk-length by y.depth ys (record { key = y.key; size = y.size - by; depth = y.depth } ∷ tail)))
  | inr h ↦ rw (lt-false y.depth d h) (omega (arith, shrunk-length by d ys (y ∷ tail)))
]

pub cut-steps : (at n depth : ℕ) (xs one two three : List Row) → at < length xs → n ≡ length (tree_of (drop at xs)) → depth ≡ top_depth (drop at xs)
    → one ≡ shrunk n depth (reverse (take at xs)) (drop at xs)
    → two ≡ raised_part at (at + n) depth one
    → three ≡ rotated at (at + n) (length xs) two
    → IsCut at xs three
cut-steps at n depth xs one two three h e f is_one is_two is_three =
    let here = drop at xs in
    let tree = tree_of here in
    let after = after_tree here in
    let low = map (raised depth) tree in
    let back = reverse (take at xs) in
    let us = shrunk n depth back [] in
    let lu : at ≡ length us = omega (arith, shrunk-length n depth back [], length-reverse (take at xs), length-take at xs) in
    let lt : at + n ≡ length us + length tree = omega arith in
    let o : one ≡ us ++ (tree ++ after) = is_one ∙ shrunk-tail n depth back here ∙ ap (λ l. us ++ l) (sym (tree-parts here)) in
    let m : at + n - at ≡ length tree = omega arith in
    let d1 : drop at one ≡ tree ++ after = ap (drop at) o ∙ drop_at us (tree ++ after) at (sym lu) in
    let f1 : take at one ≡ us = ap (take at) o ∙ take_at us (tree ++ after) at (sym lu) in
    let t1 : take (at + n - at) (drop at one) ≡ tree = ap (take (at + n - at)) d1 ∙ take_at tree after (at + n - at) (sym m) in
    let sum : at + (at + n - at) ≡ at + n = omega arith in
    let r1 : drop (at + n) one ≡ after = ap (λ k. drop k one) (sym sum) ∙ sym (drop-drop (at + n - at) at one) ∙ ap (drop (at + n - at)) d1 ∙ drop_at tree after (at + n - at) (sym m) in
    let t : two ≡ us ++ (low ++ (after ++ [])) =
    is_two ∙ ap (λ l. l ++ (map (raised depth) (take (at + n - at) (drop at one)) ++ drop (at + n) one)) f1
    ∙ ap (λ l. us ++ (map (raised depth) l ++ drop (at + n) one)) t1 ∙ ap (λ l. us ++ (low ++ l)) (r1 ∙ sym (append-nil after)) in
    let ll : at + n ≡ length us + length low = omega (arith, length-map tree (raised depth)) in
    let la : length xs ≡ at + n + length after = omega (arith, length-append tree after, ap length (tree-parts here), length-drop at xs) in
    is_three ∙ ap (rotated at (at + n) (length xs)) t ∙ rotated-parts us low after [] at (at + n) (length xs) lu ll la ∙ ap (λ l. us ++ l) (append-nil (after ++ low))
    ∙ sym (shrunk-tail n depth back (after ++ low)) ∙ ap (λ k. shrunk k depth back (after ++ low)) e
    ∙ ap (λ d. shrunk (length tree) d back (after ++ map (raised d) tree)) f

pub depth-at : (at : ℕ) (xs : List Row) (d : Row) → at < length xs → (get_or xs at d).depth ≡ top_depth (drop at xs)
depth-at zero [] d h = absurd (omega arith)
depth-at zero (x ∷ xs) d h = refl
depth-at (suc at) [] d h = absurd (omega arith)
depth-at (suc at) (x ∷ xs) d h = depth-at at xs d (omega arith)
