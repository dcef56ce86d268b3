-- Rows that a walk passes by, and those at which it stops.
use Rattle.std.proofs.Common.{◌≡◌, ℕ, zero, suc, ◌+◌, ◌-◌, ◌<◌, ◌≤◌, ◌==◌, Bool, true, false, List, [], ◌∷◌, ◌++◌, map, length, take, drop, reverse, Some, None, length-drop, length-take, append-nil, append_assoc, subst, inl, inr, refl, sym, ap, ◌∙◌, arith, get_or, take-add}
use Rattle.std.specs.Prelude.{filter}
use Rattle.std.proofs.lemmas.Bool.{cases_lt}
use Rattle.std.proofs.lemmas.List.{map-append, take-append-drop, drop-drop, reverse-append, reverse-reverse, length-reverse, take_at, drop_at, get_or-take, get_or-drop}
use Rattle.std.proofs.lemmas.List.Elements.{filter-append}
use Rattle.std.proofs.Math.Seq.{get_or-append_seam}
use Rattle.slab.specs.Slab.{Slab, get}
use Rattle.xf_def_forest.specs.declared.content.Node.{Node}
use Rattle.xf_def_forest.specs.declared.content.Content.{Content}
use Rattle.xf_def_forest.specs.Visit.{numbers}
use Rattle.xf_tree_rows.specs.declared.rows.Row.{Row}
use Rattle.xf_tree_rows.specs.Rows.{AllDeep, deeper, tree_of, top_depth, less_deep, no_row}
use Rattle.xf_tree_rows.proofs.SizedLemmas.{lt-true, lt-false}
use Rattle.xf_tree_rows.proofs.RowLemmas.{split-at}
use Rattle.xf_tree_contents.specs.Slot.{Slot}
use Rattle.xf_tree_contents.specs.Keys.{number_in}
use Rattle.xf_tree_walks.specs.Nodes.{node_of}
use Rattle.xf_tree_walks.specs.Walks.{between, chosen, climbed}
use Rattle.xf_tree_walks.specs.Kids.{is_kid}
use Rattle.xf_tree_walks.proofs.NodeLemmas.{eq-false}
use Rattle.xf_tree_walks.proofs.PlaceLemmas.{tree-size}
use Rattle.xf_tree_walks.proofs.AboveLemmas.{Above, deep-at}

-- ---- rows between two places

pub between-none : (from to : ℕ) (rows : List Row) → to ≤ from → between from to rows ≡ []
between-none from to rows h = let e : to - from ≡ 0 = omega arith in ap (λ n. take n (drop from rows)) e

pub between-first : (from to : ℕ) (rows : List Row) → from < to → to ≤ length rows → between from to rows ≡ get_or rows from no_row ∷ between (from + 1) to rows
between-first from to rows h l =
    let e : to - from ≡ suc (to - (from + 1)) = omega arith in
    let m : from < length rows = omega arith in
    ap (λ n. take n (drop from rows)) e ∙ ap (take (suc (to - (from + 1)))) (split-at from rows no_row m)

pub between-parts : (from mid to : ℕ) (rows : List Row) → from ≤ mid → mid ≤ to → between from to rows ≡ between from mid rows ++ between mid to rows
between-parts from mid to rows h l =
    let e : to - from ≡ (mid - from) + (to - mid) = omega arith in
    let f : from + (mid - from) ≡ mid = omega arith in
    ap (λ n. take n (drop from rows)) e ∙ take-add (mid - from) (to - mid) (drop from rows)
    ∙ ap (λ l. between from mid rows ++ take (to - mid) l) (drop-drop (mid - from) from rows ∙ ap (λ n. drop n rows) f)

pub between-last : (from at : ℕ) (rows : List Row) → from ≤ at → at < length rows → between from (at + 1) rows ≡ between from at rows ++ (get_or rows at no_row ∷ [])
between-last from at rows h l =
    let a : at ≤ at + 1 = omega arith in
    let b : at < at + 1 = omega arith in
    let c : at + 1 ≤ length rows = omega arith in
    let d : at + 1 ≤ at + 1 = omega arith in
    between-parts from at (at + 1) rows h a
    ∙ ap (λ l. between from at rows ++ l) (between-first at (at + 1) rows b c ∙ ap (λ l. get_or rows at no_row ∷ l) (between-none (at + 1) (at + 1) rows d))

-- ---- the nodes that meet a test

pub chosen-append : (s : Slab Slot) (test : Node → Bool) (xs ys : List Row) → chosen s test (xs ++ ys) ≡ chosen s test xs ++ chosen s test ys
chosen-append s test xs ys =
    ap (λ l. numbers (filter test l)) (map-append (node_of s) xs ys) ∙ ap numbers (filter-append test (map (node_of s) xs) (map (node_of s) ys))
    ∙ map-append (λ (x : Node). x.number) (filter test (map (node_of s) xs)) (filter test (map (node_of s) ys))

pub chosen-yes : (s : Slab Slot) (test : Node → Bool) (x : Row) (xs : List Row) → test (node_of s x) ≡ true → chosen s test (x ∷ xs) ≡ number_in (get s x.key) ∷ chosen s test xs
chosen-yes s test x xs e = rw e refl

pub chosen-no : (s : Slab Slot) (test : Node → Bool) (x : Row) (xs : List Row) → test (node_of s x) ≡ false → chosen s test (x ∷ xs) ≡ chosen s test xs
chosen-no s test x xs e = rw e refl

pub deep-no : (s : Slab Slot) (d : ℕ) (q : Content → Bool) (x : Row) → d < x.depth → is_kid q d (node_of s x) ≡ false
deep-no s d q x h =
    let other : (x.depth == d) ≡ false = eq-false x.depth d (λ e. let z : ⊥ = omega arith in z) in
    rw other refl

-- among deeper rows there is none at this depth
pub deep-none : (s : Slab Slot) (d : ℕ) (q : Content → Bool) (xs : List Row) → AllDeep (d + 1) xs → chosen s (is_kid q d) xs ≡ []
deep-none s d q [] all = refl
deep-none s d q (x ∷ xs) all = chosen-no s (is_kid q d) x xs (deep-no s d q x (omega (arith, all.0))) ∙ deep-none s d q xs all.1

-- ---- past the tree at a place

kin-behind : (s : Slab Slot) (d e : ℕ) (q : Content → Bool) (m : ℕ) (ys : List Row) → d ≤ e
    → chosen s (is_kid q d) (take (m - deeper e ys) (drop (deeper e ys) ys)) ≡ chosen s (is_kid q d) (take m ys)
kin-behind s d e q m [] h = let z : m - 0 ≡ m = omega arith in ap (λ n. chosen s (is_kid q d) (take n [])) z
kin-behind s d e q zero (y ∷ ys) h = let z : 0 - deeper e (y ∷ ys) ≡ 0 = omega arith in ap (λ n. chosen s (is_kid q d) (take n (drop (deeper e (y ∷ ys)) (y ∷ ys)))) z
kin-behind s d e q (suc m) (y ∷ ys) h = elim (cases_lt e y.depth) [
  | inl l ↦
      let other = chosen-no s (is_kid q d) y (take m ys) (deep-no s d q y (omega arith)) in
      let z : suc m - suc (deeper e ys) ≡ m - deeper e ys = omega arith in
      rw (lt-true e y.depth l) (ap (λ n. chosen s (is_kid q d) (take n (drop (deeper e ys) ys))) z ∙ kin-behind s d e q m ys h ∙ sym other)
  | inr l ↦ let z : suc m - 0 ≡ suc m = omega arith in rw (lt-false e y.depth l) (ap (λ n. chosen s (is_kid q d) (take n (y ∷ ys))) z)
]

pub deep-behind : (d m k : ℕ) (ys : List Row) → AllDeep d (take m ys) → AllDeep d (take (m - k) (drop k ys))
deep-behind d m zero ys all = let z : m - 0 ≡ m = omega arith in subst (λ n. AllDeep d (take n ys)) (sym z) all
deep-behind d m (suc k) [] all = subst (λ l. AllDeep d l) (sym (nothing (m - suc k))) tt
  where
    nothing : (n : ℕ) → take {A = Row} n [] ≡ []
    nothing zero = refl
    nothing (suc n) = refl
deep-behind d zero (suc k) (y ∷ ys) all = let z : 0 - suc k ≡ 0 = omega arith in subst (λ n. AllDeep d (take n (drop k ys))) (sym z) tt
deep-behind d (suc m) (suc k) (y ∷ ys) all = let z : suc m - suc k ≡ m - k = omega arith in subst (λ n. AllDeep d (take n (drop k ys))) (sym z) (deep-behind d m k ys all.1)

pub record Behind (s : Slab Slot) (d : ℕ) (q : Content → Bool) (rows : List Row) (next end stop : ℕ) : Type 0 where
  pub further : next < stop
  pub least : d ≤ (get_or rows next no_row).depth
  pub first : between next end rows ≡ get_or rows next no_row ∷ between (next + 1) end rows
  pub same : chosen s (is_kid q d) (between stop end rows) ≡ chosen s (is_kid q d) (between (next + 1) end rows)
  pub deep : AllDeep d (between stop end rows)

pub behind : (s : Slab Slot) (d : ℕ) (q : Content → Bool) (rows : List Row) (next end stop : ℕ) → next < end → end ≤ length rows → AllDeep d (between next end rows)
    → stop ≡ next + length (tree_of (drop next rows)) → Behind s d q rows next end stop
behind s d q rows next end stop h l all e =
    let x = get_or rows next no_row in
    let xs = drop (next + 1) rows in
    let w = deeper x.depth xs in
    let m = end - (next + 1) in
    let first = between-first next end rows h l in
    let deep : AllDeep d (x ∷ between (next + 1) end rows) = subst (AllDeep d) first all in
    let in_rows : next < length rows = omega arith in
    let size = tree-size next rows in_rows in
    let at_stop : next + 1 + w ≡ stop = omega arith in
    let left : m - w ≡ end - stop = omega arith in
    let is : take (m - w) (drop w xs) ≡ between stop end rows = ap (λ n. take n (drop w xs)) left ∙ ap (take (end - stop)) (drop-drop w (next + 1) rows ∙ ap (λ n. drop n rows) at_stop) in
    record {
      further = omega arith;
      least = deep.0;
      first = first;
      same = ap (chosen s (is_kid q d)) (sym is) ∙ kin-behind s d x.depth q m xs deep.0;
      deep = subst (AllDeep d) is (deep-behind d m w xs deep.1);
    }

pub kin-passed : (s : Slab Slot) (d : ℕ) (q : Content → Bool) (rows : List Row) (next end stop : ℕ) → Behind s d q rows next end stop → is_kid q d (node_of s (get_or rows next no_row)) ≡ false
    → chosen s (is_kid q d) (between stop end rows) ≡ chosen s (is_kid q d) (between next end rows)
kin-passed s d q rows next end stop b other =
    b.same ∙ sym (ap (chosen s (is_kid q d)) b.first ∙ chosen-no s (is_kid q d) (get_or rows next no_row) (between (next + 1) end rows) other)

pub kin-found : (s : Slab Slot) (d : ℕ) (q : Content → Bool) (rows : List Row) (next end stop : ℕ) → Behind s d q rows next end stop → is_kid q d (node_of s (get_or rows next no_row)) ≡ true
    → chosen s (is_kid q d) (between next end rows) ≡ number_in (get s (get_or rows next no_row).key) ∷ chosen s (is_kid q d) (between stop end rows)
kin-found s d q rows next end stop b is =
    ap (chosen s (is_kid q d)) b.first ∙ chosen-yes s (is_kid q d) (get_or rows next no_row) (between (next + 1) end rows) is
    ∙ ap (λ l. number_in (get s (get_or rows next no_row).key) ∷ l) (sym b.same)

-- ---- going back

-- what is deeper at the end makes no difference
pub kin-before_deep : (s : Slab Slot) (d : ℕ) (q : Content → Bool) (rows : List Row) (from mid to : ℕ) → from ≤ mid → mid ≤ to → AllDeep (d + 1) (between mid to rows)
    → chosen s (is_kid q d) (between from mid rows) ≡ chosen s (is_kid q d) (between from to rows)
kin-before_deep s d q rows from mid to h l all =
    sym (ap (chosen s (is_kid q d)) (between-parts from mid to rows h l) ∙ chosen-append s (is_kid q d) (between from mid rows) (between mid to rows)
    ∙ ap (λ l. chosen s (is_kid q d) (between from mid rows) ++ l) (deep-none s d q (between mid to rows) all) ∙ append-nil (chosen s (is_kid q d) (between from mid rows)))

pub kin-back_none : (s : Slab Slot) (d : ℕ) (q : Content → Bool) (rows : List Row) (from at : ℕ) → from ≤ at → at < length rows → is_kid q d (node_of s (get_or rows at no_row)) ≡ false
    → chosen s (is_kid q d) (between from (at + 1) rows) ≡ chosen s (is_kid q d) (between from at rows)
kin-back_none s d q rows from at h l other =
    ap (chosen s (is_kid q d)) (between-last from at rows h l) ∙ chosen-append s (is_kid q d) (between from at rows) (get_or rows at no_row ∷ [])
    ∙ ap (λ l. chosen s (is_kid q d) (between from at rows) ++ l) (chosen-no s (is_kid q d) (get_or rows at no_row) [] other) ∙ append-nil (chosen s (is_kid q d) (between from at rows))

pub kin-back_found : (s : Slab Slot) (d : ℕ) (q : Content → Bool) (rows : List Row) (from at : ℕ) → from ≤ at → at < length rows → is_kid q d (node_of s (get_or rows at no_row)) ≡ true
    → reverse (chosen s (is_kid q d) (between from (at + 1) rows)) ≡ number_in (get s (get_or rows at no_row).key) ∷ reverse (chosen s (is_kid q d) (between from at rows))
kin-back_found s d q rows from at h l is =
    let n = number_in (get s (get_or rows at no_row).key) in
    ap reverse (ap (chosen s (is_kid q d)) (between-last from at rows h l) ∙ chosen-append s (is_kid q d) (between from at rows) (get_or rows at no_row ∷ [])
    ∙ ap (λ l. chosen s (is_kid q d) (between from at rows) ++ l) (chosen-yes s (is_kid q d) (get_or rows at no_row) [] is))
    ∙ reverse-append (chosen s (is_kid q d) (between from at rows)) (n ∷ [])

deep-append : (d : ℕ) (xs ys : List Row) → AllDeep d xs → AllDeep d ys → AllDeep d (xs ++ ys)
deep-append d [] ys p q = q
deep-append d (x ∷ xs) ys p q = (p.0, deep-append d xs ys p.1 q)

pub deep-less : (d e : ℕ) (xs : List Row) → e ≤ d → AllDeep d xs → AllDeep e xs
deep-less d e [] h all = tt
deep-less d e (x ∷ xs) h all = (omega (arith, all.0), deep-less d e xs h all.1)

-- up from a row that is too deep, to no further than one that is less deep
pub climb-on : (rows : List Row) (d place at from : ℕ) → Above rows place at → d < (get_or rows at no_row).depth → at ≤ from → from < length rows
    → AllDeep (d + 1) (between (at + 1) (from + 1) rows) → AllDeep (d + 1) (between (place + 1) (from + 1) rows)
climb-on rows d place at from a deep h l all =
    let x = get_or rows at no_row in
    let o = a.order in
    let one : place + 1 ≤ at = omega arith in
    let two : at ≤ from + 1 = omega arith in
    let three : at < from + 1 = omega arith in
    let four : from + 1 ≤ length rows = omega arith in
    let less : d + 1 ≤ x.depth = omega arith in
    let parts = between-parts (place + 1) at (from + 1) rows one two ∙ ap (λ l. between (place + 1) at rows ++ l) (between-first at (from + 1) rows three four) in
    subst (AllDeep (d + 1)) (sym parts) (deep-append (d + 1) (between (place + 1) at rows) (x ∷ between (at + 1) (from + 1) rows) (deep-less x.depth (d + 1) (between (place + 1) at rows) less a.between) (less, all))

pub climb-bounded : (rows : List Row) (low place at : ℕ) → Above rows place at → at < length rows → low ≤ at → (get_or rows low no_row).depth < (get_or rows at no_row).depth → low ≤ place
climb-bounded rows low place at a in_rows h less = elim (cases_lt place low) [
  | inl l ↦
      let x = get_or rows at no_row in
      let y = get_or rows low no_row in
      absurd (elim (cases_lt low at) [
        | inl m ↦
            let k = low - (place + 1) in
            let later = drop (place + 1) rows in
            let n = at - (place + 1) in
            let long : k < length (take n later) = omega (arith, length-take n later, length-drop (place + 1) rows) in
            let small : k < n = omega arith in
            let sum : place + 1 + k ≡ low = omega arith in
            let same = get_or-take n later k no_row small ∙ get_or-drop (place + 1) rows k no_row ∙ ap (λ j. get_or rows j no_row) sum in
            let d = deep-at x.depth (take n later) k a.between long in
            let e = ap (λ (r : Row). r.depth) same in
            (omega arith)
        | inr m ↦
            let is : low ≡ at = omega arith in
            let e = ap (λ j. (get_or rows j no_row).depth) is in
            (omega arith)
      ])
  | inr l ↦ l
]

-- ---- the ancestors

pub climbed-none : (d : ℕ) (ys : List Row) → None ≡ less_deep d ys → climbed d ys ≡ []
climbed-none d [] e = refl
climbed-none d (y ∷ ys) e = elim (cases_lt y.depth d) [
  | inl l ↦ let no : None ≡ Some (length ys) = rw (lt-true y.depth d l) at e in absurd (cc)
  | inr l ↦ rw (lt-false y.depth d l) (climbed-none d ys (rw (lt-false y.depth d l) at e))
]

climbed-more : (d k : ℕ) (ys tail : List Row) → Some k ≡ less_deep d ys
    → climbed d ys ≡ get_or (reverse ys ++ tail) k no_row ∷ climbed (top_depth (drop k (reverse ys ++ tail))) (reverse (take k (reverse ys ++ tail)))
climbed-more d k [] tail e = cc
climbed-more d k (y ∷ ys) tail e =
    let turn : reverse (y ∷ ys) ++ tail ≡ reverse ys ++ (y ∷ tail) = ap (λ l. l ++ tail) (reverse-append (y ∷ []) ys) ∙ append_assoc (reverse ys) (y ∷ []) tail in
    let goes = λ (rows : List Row). climbed d (y ∷ ys) ≡ get_or rows k no_row ∷ climbed (top_depth (drop k rows)) (reverse (take k rows)) in
    subst goes (sym turn) (elim (cases_lt y.depth d) [
      | inl l ↦
          let here : Some k ≡ Some (length ys) = rw (lt-true y.depth d l) at e in
          let is : k ≡ length (reverse ys) = (let i : k ≡ length ys = cc in i ∙ sym (length-reverse ys)) in
          let first : get_or (reverse ys ++ (y ∷ tail)) k no_row ≡ y = ap (λ j. get_or (reverse ys ++ (y ∷ tail)) j no_row) is ∙ get_or-append_seam (reverse ys) y tail no_row in
          let front : take k (reverse ys ++ (y ∷ tail)) ≡ reverse ys = ap (λ j. take j (reverse ys ++ (y ∷ tail))) is ∙ take_at (reverse ys) (y ∷ tail) (length (reverse ys)) refl in
          let back : drop k (reverse ys ++ (y ∷ tail)) ≡ y ∷ tail = ap (λ j. drop j (reverse ys ++ (y ∷ tail))) is ∙ drop_at (reverse ys) (y ∷ tail) (length (reverse ys)) refl in
          let goal : y ∷ climbed y.depth ys ≡ get_or (reverse ys ++ (y ∷ tail)) k no_row ∷ climbed (top_depth (drop k (reverse ys ++ (y ∷ tail)))) (reverse (take k (reverse ys ++ (y ∷ tail)))) =
          rw (first, back, front, reverse-reverse) refl in
          rw (lt-true y.depth d l) goal
      | inr l ↦ rw (lt-false y.depth d l) (climbed-more d k ys (y ∷ tail) (rw (lt-false y.depth d l) at e))
    ])

pub climbed-first : (d k at : ℕ) (rows : List Row) → Some k ≡ less_deep d (reverse (take at rows))
    → climbed d (reverse (take at rows)) ≡ get_or rows k no_row ∷ climbed (top_depth (drop k rows)) (reverse (take k rows))
climbed-first d k at rows e =
    let whole : reverse (reverse (take at rows)) ++ drop at rows ≡ rows = ap (λ l. l ++ drop at rows) (reverse-reverse (take at rows)) ∙ take-append-drop at rows in
    subst (λ (l : List Row). climbed d (reverse (take at rows)) ≡ get_or l k no_row ∷ climbed (top_depth (drop k l)) (reverse (take k l))) whole (climbed-more d k (reverse (take at rows)) (drop at rows) e)
