-- What moving a tree that stands by itself under a node does to the sizes.
use Rattle.std.proofs.Common.{◌≡◌, ℕ, zero, suc, ◌+◌, ◌-◌, ◌<◌, ◌≤◌, ◌^◌, List, [], ◌∷◌, ◌++◌, map, length, take, drop, get_or, set, reverse, subst, append_assoc, inl, inr, refl, sym, ap, ◌∙◌, arith, length-drop, length-take, length-append}
use Rattle.std.proofs.lemmas.Bool.{cases_lt}
use Rattle.std.proofs.lemmas.List.{take-append-drop, reverse-reverse, length-reverse, take_at, drop_at, length-map, drop-drop, get_or_default, get_or-take, get_or-drop}
use Rattle.std.proofs.lemmas.List.Edits.{map_over_more}
use Rattle.std.specs.List.{All}
use Rattle.xf_tree_rows.specs.declared.rows.Row.{Row}
use Rattle.xf_tree_rows.specs.Rows.{deeper, Sized, grown, deepened, deepened_part, rotated, tree_of, after_tree, top_depth, IsPaste, AllDeep}
use Rattle.xf_tree_rows.proofs.SizedLemmas.{lt-true, lt-false, Longer, deeper-append, deeper-less, sized-append, sized-front, longer-tree, grown-sized, sized-before}
use Rattle.xf_tree_rows.proofs.CutLemmas.{tree-parts, all-deep-zero, stops-after, deeper-length}
use Rattle.xf_tree_rows.proofs.MoveLemmas.{rotated-parts}

pub deepen-step : (by i : ℕ) (xs ys : List Row) (d : Row) → i < length xs → ys ≡ map (deepened by) (take i xs) ++ drop i xs
    → set ys i (record { key = (get_or ys i d).key; size = (get_or ys i d).size; depth = (get_or ys i d).depth + by }) ≡ map (deepened by) (take (i + 1) xs) ++ drop (i + 1) xs
deepen-step by i xs ys d h e =
    let l : i < length ys = omega (arith, ap length e, length-append (map (deepened by) (take i xs)) (drop i xs), length-map (take i xs) (deepened by), length-take i xs, length-drop i xs) in
    map_over_more (deepened by) xs ys i (get_or ys i d) h e (get_or_default ys i d (get_or ys i d) l)

pub deepened-deeper : (by e : ℕ) (xs : List Row) → deeper (e + by) (map (deepened by) xs) ≡ deeper e xs
deepened-deeper by e [] = refl
deepened-deeper by e (x ∷ xs) =
    elim (cases_lt e x.depth) [
      | inl l ↦ let m : e + by < x.depth + by = omega arith in rw (lt-true e x.depth l, lt-true (e + by) (x.depth + by) m) (ap suc (deepened-deeper by e xs))
      | inr l ↦ let m : x.depth + by ≤ e + by = omega arith in rw (lt-false e x.depth l, lt-false (e + by) (x.depth + by) m) refl
    ]

pub deepened-sized : (by : ℕ) (xs : List Row) → Sized xs → Sized (map (deepened by) xs)
deepened-sized by [] s = tt
deepened-sized by (x ∷ xs) s = (s.0 ∙ ap (λ n. n + 1) (sym (deepened-deeper by x.depth xs)), deepened-sized by xs s.1)

deepened-deep : (by : ℕ) (xs : List Row) → AllDeep by (map (deepened by) xs)
deepened-deep by [] = tt
deepened-deep by (x ∷ xs) = let l : by ≤ x.depth + by = omega arith in (l, deepened-deep by xs)

-- us, then ms, then a tree of its own, then ds
pub paste-sized : (us ms : List Row) (x : Row) (rest ds : List Row) (d : ℕ) → Sized (us ++ (ms ++ ((x ∷ rest) ++ ds))) → x.depth ≡ 0 → deeper 0 ds ≡ 0
    → deeper d (ms ++ ((x ∷ rest) ++ ds)) ≡ 0
    → Sized (grown (length (x ∷ rest)) d (reverse us) (map (deepened d) (x ∷ rest) ++ (ms ++ ds)))
paste-sized us ms x rest ds d s top stops place =
    let tail = ms ++ ((x ∷ rest) ++ ds) in
    let low = map (deepened d) (x ∷ rest) in
    let tree0 : (e : ℕ) → deeper e ((x ∷ rest) ++ ds) ≡ 0 = λ e. let l : x.depth ≤ e = omega arith in rw (lt-false e x.depth l) refl in
    let ds0 : (e : ℕ) → deeper e ds ≡ 0 = λ e. deeper-less 0 e ds (omega arith) stops in
    let same : (e : ℕ) → deeper e (ms ++ ds) ≡ deeper e tail = λ e. deeper-append e ms ds (ds0 e) ∙ sym (deeper-append e ms ((x ∷ rest) ++ ds) (tree0 e)) in
    let e : reverse (reverse us) ++ tail ≡ us ++ tail = ap (λ l. l ++ tail) (reverse-reverse us) in
    let both = sized-before (reverse us) tail (subst Sized (sym e) s) in
    let one = sized-front 0 ms ((x ∷ rest) ++ ds) (all-deep-zero ms) (tree0 0) both.1 in
    let two = sized-front 0 (x ∷ rest) ds (all-deep-zero (x ∷ rest)) stops one.1 in
    let without : Sized (ms ++ ds) = sized-append 0 ms ds (all-deep-zero ms) stops one.0 two.1 in
    let here : deeper d (ms ++ ds) ≡ 0 = same d ∙ place in
    let second : Sized (low ++ (ms ++ ds)) = sized-append d low (ms ++ ds) (deepened-deep d (x ∷ rest)) here (deepened-sized d (x ∷ rest) two.0) without in
    let at_d : (deepened d x).depth ≡ d = omega arith in
    let longer : Longer (length (x ∷ rest)) d tail (low ++ (ms ++ ds)) =
    let deep : AllDeep (deepened d x).depth (map (deepened d) rest) = subst (λ k. AllDeep k (map (deepened d) rest)) (sym at_d) (deepened-deep d rest) in
    let shut : deeper (deepened d x).depth (ms ++ ds) ≡ 0 = ap (λ k. deeper k (ms ++ ds)) at_d ∙ here in
    let l = longer-tree (deepened d x) (map (deepened d) rest) (ms ++ ds) deep shut in
    let n : length (map (deepened d) rest) + 1 ≡ length (x ∷ rest) = omega (arith, length-map rest (deepened d)) in
    record {
      is_open = λ f h. let g : f < (deepened d x).depth = omega arith in l.is_open f g ∙ (let k = same f in omega arith);
      shut = λ f h. let g : (deepened d x).depth ≤ f = omega arith in l.shut f g ∙ same f;
    } in
    grown-sized (length (x ∷ rest)) d (reverse us) tail (low ++ (ms ++ ds)) longer both.0 second

size-bound : (k : ℕ) (xs : List Row) (d : Row) → k < length xs → Sized xs → (get_or xs k d).size ≤ length xs
size-bound k [] d h s = absurd (omega arith)
size-bound zero (x ∷ xs) d h s = omega (arith, s.0, deeper-length x.depth xs)
size-bound (suc k) (x ∷ xs) d h s = let i = size-bound k xs d (omega arith) s.1 in omega arith

pub room-for : (to n : ℕ) (xs : List Row) → Sized xs → length xs < 2 ^ 32 → n ≤ length xs → All (λ (r : Row). r.size + n < 2 ^ 64) (take to xs)
room-for to n xs s few le = λ k d h.
    let in_to : k < to = omega (arith, length-take to xs) in
    let in_xs : k < length xs = omega (arith, length-take to xs) in
    let e = get_or-take to xs k d in_to in
    let b = size-bound k xs d in_xs s in
    rw e (omega arith)

pub fits-part : (from n by : ℕ) (xs : List Row) → from ≤ length xs → All (λ (r : Row). r.depth + by < 2 ^ 32) xs → All (λ (r : Row). r.depth + by < 2 ^ 32) (take n (drop from xs))
fits-part from n by xs h all = λ k d l.
    let in_n : k < n = omega (arith, length-take n (drop from xs)) in
    let in_xs : from + k < length xs = omega (arith, length-take n (drop from xs), length-drop from xs) in
    let e = get_or-take n (drop from xs) k d in_n in
    let g = get_or-drop from xs k d in
    rw (e, g) (all (from + k) d in_xs)

-- what stands after the rows is not looked at
pub grown-tail : (by d : ℕ) (ys tail : List Row) → grown by d ys tail ≡ grown by d ys [] ++ tail
grown-tail by d [] tail = refl
grown-tail by d (y ∷ ys) tail =
    let large : Row = record { key = y.key; size = y.size + by; depth = y.depth } in
    elim (cases_lt y.depth d) [
      | inl h ↦ rw (lt-true y.depth d h)
          (grown-tail by y.depth ys (large ∷ tail) ∙ sym (append_assoc (grown by y.depth ys []) (large ∷ []) tail) ∙ ap (λ l. l ++ tail) (sym (grown-tail by y.depth ys (large ∷ []))))
      | inr h ↦ rw (lt-false y.depth d h) (grown-tail by d ys (y ∷ tail) ∙ sym (append_assoc (grown by d ys []) (y ∷ []) tail) ∙ ap (λ l. l ++ tail) (sym (grown-tail by d ys (y ∷ []))))
    ]

pub grown-length : (by d : ℕ) (ys tail : List Row) → length (grown by d ys tail) ≡ length ys + length tail
grown-length by d [] tail = omega arith
grown-length by d (y ∷ ys) tail = elim (cases_lt y.depth d) [
  | inl h ↦ rw (lt-true y.depth d h) (omega (arith, grown-length by y.depth ys (record { key = y.key; size = y.size + by; depth = y.depth } ∷ tail)))
  | inr h ↦ rw (lt-false y.depth d h) (omega (arith, grown-length by d ys (y ∷ tail)))
]

-- the rows before a place are other ones, as many as they were
pub after-grown : (from to n depth : ℕ) (xs : List Row) → to ≤ from → to ≤ length xs → drop from (grown n depth (reverse (take to xs)) (drop to xs)) ≡ drop from xs
after-grown from to n depth xs h l =
    let back = reverse (take to xs) in
    let us = grown n depth back [] in
    let lu : length us ≡ to = omega (arith, grown-length n depth back [], length-reverse (take to xs), length-take to xs) in
    let sum : to + (from - to) ≡ from = omega arith in
    ap (λ k. drop k (grown n depth back (drop to xs))) (sym sum) ∙ sym (drop-drop (from - to) to (grown n depth back (drop to xs)))
    ∙ ap (λ r. drop (from - to) (drop to r)) (grown-tail n depth back (drop to xs)) ∙ ap (drop (from - to)) (drop_at us (drop to xs) to lu)
    ∙ drop-drop (from - to) to xs ∙ ap (λ k. drop k xs) sum

pub paste-steps : (from to n depth : ℕ) (xs one two three : List Row) → to ≤ from → from < length xs → n ≡ length (tree_of (drop from xs))
    → one ≡ grown n depth (reverse (take to xs)) (drop to xs)
    → two ≡ deepened_part from (from + n) depth one
    → three ≡ rotated to from (from + n) two
    → IsPaste from to depth xs three
paste-steps from to n depth xs one two three h l e is_one is_two is_three =
    let here = drop from xs in
    let tree = tree_of here in
    let after = after_tree here in
    let ms = take (from - to) (drop to xs) in
    let low = map (deepened depth) tree in
    let back = reverse (take to xs) in
    let us = grown n depth back [] in
    let lu : to ≡ length us = omega (arith, grown-length n depth back [], length-reverse (take to xs), length-take to xs) in
    let lm : from ≡ length us + length ms = omega (arith, length-take (from - to) (drop to xs), length-drop to xs) in
    let lb : length (us ++ ms) ≡ from = omega (arith, length-append us ms) in
    let sum : to + (from - to) ≡ from = omega arith in
    let later : drop to xs ≡ ms ++ (tree ++ after) =
    sym (take-append-drop (from - to) (drop to xs)) ∙ ap (λ r. ms ++ r) (drop-drop (from - to) to xs ∙ ap (λ k. drop k xs) sum ∙ sym (tree-parts here)) in
    let o : one ≡ (us ++ ms) ++ (tree ++ after) = is_one ∙ grown-tail n depth back (drop to xs) ∙ ap (λ r. us ++ r) later ∙ sym (append_assoc us ms (tree ++ after)) in
    let m : from + n - from ≡ length tree = omega arith in
    let f1 : take from one ≡ us ++ ms = ap (take from) o ∙ take_at (us ++ ms) (tree ++ after) from lb in
    let d1 : drop from one ≡ tree ++ after = ap (drop from) o ∙ drop_at (us ++ ms) (tree ++ after) from lb in
    let t1 : take (from + n - from) (drop from one) ≡ tree = ap (take (from + n - from)) d1 ∙ take_at tree after (from + n - from) (sym m) in
    let to_end : from + (from + n - from) ≡ from + n = omega arith in
    let r1 : drop (from + n) one ≡ after =
    ap (λ k. drop k one) (sym to_end) ∙ sym (drop-drop (from + n - from) from one) ∙ ap (drop (from + n - from)) d1 ∙ drop_at tree after (from + n - from) (sym m) in
    let t : two ≡ us ++ (ms ++ (low ++ after)) =
    is_two ∙ ap (λ r. r ++ (map (deepened depth) (take (from + n - from) (drop from one)) ++ drop (from + n) one)) f1
    ∙ ap (λ r. (us ++ ms) ++ (map (deepened depth) r ++ drop (from + n) one)) t1 ∙ ap (λ r. (us ++ ms) ++ (low ++ r)) r1 ∙ append_assoc us ms (low ++ after) in
    let ll : from + n ≡ from + length low = ap (λ k. from + k) (e ∙ sym (length-map tree (deepened depth))) in
    is_three ∙ ap (rotated to from (from + n)) t ∙ rotated-parts us ms low after to from (from + n) lu lm ll ∙ ap (λ r. us ++ r) (append_assoc low ms after)
    ∙ sym (grown-tail n depth back (low ++ (ms ++ after))) ∙ ap (λ k. grown k depth back (low ++ (ms ++ after))) e

paste-here : (us ms here : List Row) (d : ℕ) → 0 < length here → Sized (us ++ (ms ++ here)) → top_depth here ≡ 0 → deeper d (ms ++ here) ≡ 0
    → Sized (grown (length (tree_of here)) d (reverse us) (map (deepened d) (tree_of here) ++ (ms ++ after_tree here)))
paste-here us ms [] d h s top place = absurd (omega arith)
paste-here us ms (x ∷ xs) d h s top place =
    let rest = take (deeper x.depth xs) xs in
    let ds = drop (deeper x.depth xs) xs in
    let e : (x ∷ rest) ++ ds ≡ x ∷ xs = tree-parts (x ∷ xs) in
    let stops : deeper 0 ds ≡ 0 = ap (λ k. deeper k ds) (sym top) ∙ stops-after x.depth xs in
    paste-sized us ms x rest ds d (subst (λ r. Sized (us ++ (ms ++ r))) (sym e) s) top stops (subst (λ r. deeper d (ms ++ r) ≡ 0) (sym e) place)

pub paste-keeps : (from to depth : ℕ) (xs new : List Row) → to ≤ from → from < length xs → Sized xs → top_depth (drop from xs) ≡ 0 → deeper depth (drop to xs) ≡ 0
    → IsPaste from to depth xs new → Sized new
paste-keeps from to depth xs new h l s top place is =
    let some : 0 < length (drop from xs) = omega (arith, length-drop from xs) in
    let later : drop to xs ≡ take (from - to) (drop to xs) ++ drop from xs =
    let sum : to + (from - to) ≡ from = omega arith in
    sym (take-append-drop (from - to) (drop to xs)) ∙ ap (λ r. take (from - to) (drop to xs) ++ r) (drop-drop (from - to) to xs ∙ ap (λ k. drop k xs) sum) in
    let whole : xs ≡ take to xs ++ (take (from - to) (drop to xs) ++ drop from xs) = sym (take-append-drop to xs) ∙ ap (λ r. take to xs ++ r) later in
    let s2 : Sized (take to xs ++ (take (from - to) (drop to xs) ++ drop from xs)) = subst Sized whole s in
    let p2 : deeper depth (take (from - to) (drop to xs) ++ drop from xs) ≡ 0 = subst (λ r. deeper depth r ≡ 0) later place in
    subst Sized (sym is) (paste-here (take to xs) (take (from - to) (drop to xs)) (drop from xs) depth some s2 top p2)
