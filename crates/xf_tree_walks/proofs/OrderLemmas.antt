-- Places that go up, each once, are those of a set in document order.
use Rattle.std.proofs.Common.{◌≡◌, ℕ, zero, suc, ◌+◌, ◌<◌, ◌≤◌, ◌==◌, ◌&&◌, ◌||◌, Bool, true, false, List, [], ◌∷◌, ◌++◌, map, length, take, drop, get_or, nat_lt, refl, sym, ap, ◌∙◌, subst, inl, inr, arith, length-drop}
use Rattle.std.specs.Prelude.{filter, IsSorted}
use Rattle.std.specs.List.{list_any, All}
use Rattle.std.specs.Ordering.{is_lt, is_le, nat_cmp}
use Rattle.std.proofs.lemmas.Bool.{cases_Bool, true≢false, cases_lt, cases_eq}
use Rattle.std.proofs.Math.Seq.{drop-cons}
use Rattle.std.proofs.lemmas.List.{map-append, take_more}
use Rattle.slab.specs.Slab.{Slab}
use Rattle.xf_def_forest.specs.declared.content.Node.{Node}
use Rattle.xf_def_forest.specs.declared.node.NodeId.{NodeId}
use Rattle.xf_def_forest.specs.Forest.{has_number}
use Rattle.xf_def_forest.specs.Order.{in_order}
use Rattle.xf_def_forest.specs.Visit.{Visit, still_above, numbers, visits_from, visits, has}
use Rattle.xf_tree_rows.specs.declared.rows.Row.{Row}
use Rattle.xf_tree_rows.specs.Rows.{no_row}
use Rattle.xf_tree_rows.proofs.SizedLemmas.{lt-true, lt-false}
use Rattle.xf_tree_contents.specs.Slot.{Slot}
use Rattle.xf_tree_contents.proofs.AlikeLemmas.{eq-true}
use Rattle.xf_tree_walks.specs.Reads.{AreUp, AreWithin, each_once, is_among, stands_one}
use Rattle.xf_tree_walks.specs.Nodes.{node_of, times, StandsAt}
use Rattle.xf_tree_walks.specs.Walks.{number_of_row}
use Rattle.xf_tree_walks.proofs.NodeLemmas.{eq-false, times-absent}
use Rattle.xf_tree_walks.proofs.PlaceLemmas.{times-at, stands, stands-after}

-- ---- places that go up

far : (k p : ℕ) (ps : List ℕ) → AreUp p ps → k < p → is_among k ps ≡ false
far k p [] up h = refl
far k p (q ∷ qs) up h =
    let other : (q == k) ≡ false = eq-false q k (λ e. omega (arith, up.0)) in
    rw other (far k q qs up.1 (omega (arith, up.0)))

once-here : (k low : ℕ) (ps : List ℕ) → AreUp low ps → is_among k ps ≡ true → each_once k ps ≡ k ∷ each_once (suc k) ps
once-here k low [] up h = absurd (true≢false (sym h))
once-here k low (p ∷ ps) up h = elim (cases_lt p k) [
  | inl l ↦
      let other : (p == k) ≡ false = eq-false p k (λ e. omega arith) in
      rw (lt-true p k l, lt-true p (suc k) (omega arith)) (once-here k p ps up.1 (rw other at h))
  | inr l ↦ elim (cases_eq p k) [
    | inl e ↦ rw (lt-false p k l, lt-true p (suc k) (omega arith)) (ap (λ m. m ∷ each_once (suc m) ps) e)
    | inr e ↦
        let more : k < p = omega arith in
        let other : (p == k) ≡ false = eq-false p k e in
        absurd (true≢false (sym (rw other at h) ∙ far k p ps up.1 more))
  ]
]

once-past : (k : ℕ) (ps : List ℕ) → is_among k ps ≡ false → each_once k ps ≡ each_once (suc k) ps
once-past k [] h = refl
once-past k (p ∷ ps) h = elim (cases_eq p k) [
  | inl e ↦ absurd (true≢false (sym (rw (eq-true p k e) refl) ∙ h))
  | inr e ↦
      let rest : is_among k ps ≡ false = rw (eq-false p k e) at h in
      elim (cases_lt p k) [
        | inl l ↦ rw (lt-true p k l, lt-true p (suc k) (omega arith)) (once-past k ps rest)
        | inr l ↦ rw (lt-false p k l, lt-false p (suc k) (omega arith)) refl
      ]
]

once-none : (k : ℕ) (ps : List ℕ) → AreWithin k ps → each_once k ps ≡ []
once-none k [] h = refl
once-none k (p ∷ ps) h = rw (lt-true p k h.0) (once-none k ps h.1)

pub within-from : (end : ℕ) (ps : List ℕ) → ((at : ℕ) → is_among at ps ≡ true → at < end) → AreWithin end ps
within-from end [] h = tt
within-from end (p ∷ ps) h = (h p (rw (eq-true p p refl) refl), within-from end ps (λ at i. h at (or-right (p == at) (is_among at ps) i)))
  where
    or-right : (a b : Bool) → b ≡ true → (a || b) ≡ true
    or-right true b i = refl
    or-right false b i = i

-- ---- the nodes there

chosen-from : (s : Slab Slot) (rows : List Row) (ns ps : List ℕ) (k fuel : ℕ) → k + fuel ≡ length rows → AreUp 0 ps → AreWithin (length rows) ps
    → ((at : ℕ) → is_among at ps ≡ stands_one s rows ns at)
    → numbers (filter (λ (x : Node). has x.number ns) (map (node_of s) (drop k rows))) ≡ map (number_of_row s rows) (each_once k ps)
chosen-from s rows ns ps k zero sum up within same =
    let end : length rows ≤ k = omega (arith, sum) in
    let none : length (drop k rows) ≡ 0 = omega (arith, length-drop k rows) in
    let all : AreWithin k ps = within-le (length rows) k ps end within in
    ap (λ l. numbers (filter (λ (x : Node). has x.number ns) (map (node_of s) l))) (empty (drop k rows) none) ∙ sym (ap (map (number_of_row s rows)) (once-none k ps all))
  where
    empty : {X : Type 0} (xs : List X) → length xs ≡ 0 → xs ≡ []
    empty [] h = refl
    empty (x ∷ xs) h = absurd (omega (arith, h))

    within-le : (m n : ℕ) (qs : List ℕ) → m ≤ n → AreWithin m qs → AreWithin n qs
    within-le m n [] h i = tt
    within-le m n (q ∷ qs) h i = (omega (arith, i.0, h), within-le m n qs h i.1)
chosen-from s rows ns ps k (suc fuel) sum up within same =
    let here : k < length rows = omega (arith, sum) in
    let rest = chosen-from s rows ns ps (suc k) fuel (omega (arith, sum)) up within same in
    let x = get_or rows k no_row in
    let split : drop k rows ≡ x ∷ drop (suc k) rows = drop-cons rows k no_row here in
    let known : is_among k ps ≡ has (number_of_row s rows k) ns = same k ∙ ap (λ b. b && has (number_of_row s rows k) ns) (lt-true k (length rows) here) in
    ap (λ l. numbers (filter (λ (y : Node). has y.number ns) (map (node_of s) l))) split
    ∙ elim (cases_Bool (is_among k ps)) [
      | inl e ↦
          let in_set : has (number_of_row s rows k) ns ≡ true = sym known ∙ e in
          rw in_set (ap (λ l. number_of_row s rows k ∷ l) rest ∙ sym (ap (map (number_of_row s rows)) (once-here k 0 ps up e)))
      | inr e ↦
          let out : has (number_of_row s rows k) ns ≡ false = sym known ∙ e in
          rw out (rest ∙ sym (ap (map (number_of_row s rows)) (once-past k ps e)))
    ]

visits-chosen : (q : ℕ → Bool) (above xs : List Node) → map (λ (v : Visit). v.number) (filter (λ (v : Visit). q v.number) (visits_from above xs)) ≡ numbers (filter (λ (x : Node). q x.number) xs)
visits-chosen q above [] = refl
visits-chosen q above (x ∷ xs) =
    let rest = visits-chosen q (x ∷ still_above x.depth above) xs in
    elim (cases_Bool (q x.number)) [ inl e ↦ rw e (ap (λ l. x.number ∷ l) rest) | inr e ↦ rw e rest ]

-- the places of a set are places of rows
pub places-within : (s : Slab Slot) (rows : List Row) (ns ps : List ℕ) → ((at : ℕ) → is_among at ps ≡ stands_one s rows ns at) → AreWithin (length rows) ps
places-within s rows ns ps same = within-from (length rows) ps (λ at i. below at (sym (same at) ∙ i))
  where
    below : (at : ℕ) → stands_one s rows ns at ≡ true → at < length rows
    below at h = elim (cases_lt at (length rows)) [ inl l ↦ l | inr l ↦ absurd (true≢false (sym h ∙ ap (λ b. b && has (number_of_row s rows at) ns) (lt-false at (length rows) l))) ]

-- the nodes at the places of a set, each once, are the set in document order
pub order-means : (s : Slab Slot) (rows : List Row) (ns ps : List ℕ) → AreUp 0 ps → ((at : ℕ) → is_among at ps ≡ stands_one s rows ns at)
    → map (number_of_row s rows) (each_once 0 ps) ≡ in_order (visits (map (node_of s) rows)) ns
order-means s rows ns ps up same =
    sym (visits-chosen (λ n. has n ns) [] (map (node_of s) rows) ∙ chosen-from s rows ns ps 0 (length rows) (omega arith) up (places-within s rows ns ps same) same)

-- ---- the places of a set

-- no two rows are of one node
pub two-places : (s : Slab Slot) (rows : List Row) (n i j : ℕ) → times n (map (node_of s) rows) ≤ 1 → StandsAt s rows n i → StandsAt s rows n j → i < j → ⊥
two-places s rows n i j few here there less =
    let p = stands s n i rows here few in
    true≢false (sym (stands-after s n i j rows here.within there few ∙ lt-true i j less) ∙ p.after)

one-place : (s : Slab Slot) (rows : List Row) (n to at : ℕ) → times n (map (node_of s) rows) ≤ 1 → StandsAt s rows n to → at < length rows → (to == at) ≡ (number_of_row s rows at == n)
one-place s rows n to at few there within = elim (cases_eq to at) [
  | inl e ↦ eq-true to at e ∙ sym (eq-true (number_of_row s rows at) n (ap (number_of_row s rows) (sym e) ∙ there.number))
  | inr e ↦ eq-false to at e ∙ sym (eq-false (number_of_row s rows at) n (λ i. apart (record { within = within; number = i }) e))
]
  where
    apart : StandsAt s rows n at → (to ≡ at → ⊥) → ⊥
    apart here other = elim (cases_lt to at) [
      | inl l ↦ two-places s rows n to at few there here l
      | inr l ↦ two-places s rows n at to few here there (omega (arith, other))
    ]

any-append : {X : Type 0} (p : X → Bool) (xs ys : List X) → list_any p (xs ++ ys) ≡ (list_any p xs || list_any p ys)
any-append p [] ys = refl
any-append p (x ∷ xs) ys = ap (λ b. p x || b) (any-append p xs ys) ∙ or-assoc (p x) (list_any p xs) (list_any p ys)
  where
    or-assoc : (a b c : Bool) → (a || (b || c)) ≡ ((a || b) || c)
    or-assoc true b c = refl
    or-assoc false b c = refl

or-none : (b : Bool) → (b || false) ≡ b
or-none true = refl
or-none false = refl

-- one node more that stands at a place
pub rank-more : (s : Slab Slot) (rows : List Row) (ns ps : List ℕ) (n to at : ℕ) → times n (map (node_of s) rows) ≤ 1 → StandsAt s rows n to → is_among at ps ≡ stands_one s rows ns at
    → is_among at (ps ++ to ∷ []) ≡ stands_one s rows (ns ++ n ∷ []) at
rank-more s rows ns ps n to at few there same =
    let m = number_of_row s rows at in
    let more : is_among at (ps ++ to ∷ []) ≡ (stands_one s rows ns at || (to == at)) = any-append (λ p. p == at) ps (to ∷ []) ∙ ap (λ b. is_among at ps || b) (or-none (to == at)) ∙ ap (λ b. b || (to == at)) same in
    let has_more : has m (ns ++ n ∷ []) ≡ (has m ns || (m == n)) = any-append (λ k. m == k) ns (n ∷ []) ∙ ap (λ b. has m ns || b) (or-none (m == n)) in
    more ∙ elim (cases_lt at (length rows)) [
      | inl l ↦ rw (lt-true at (length rows) l) (ap (λ b. has m ns || b) (one-place s rows n to at few there l) ∙ sym has_more)
      | inr l ↦ let other : (to == at) ≡ false = eq-false to at (λ e. omega (arith, there.within)) in rw (lt-false at (length rows) l, other) refl
    ]

-- and one that stands nowhere
pub rank-less : (s : Slab Slot) (rows : List Row) (ns ps : List ℕ) (n at : ℕ) → has_number n (map (node_of s) rows) ≡ false → is_among at ps ≡ stands_one s rows ns at
    → is_among at ps ≡ stands_one s rows (ns ++ n ∷ []) at
rank-less s rows ns ps n at absent same =
    let m = number_of_row s rows at in
    let has_more : has m (ns ++ n ∷ []) ≡ (has m ns || (m == n)) = any-append (λ k. m == k) ns (n ∷ []) ∙ ap (λ b. has m ns || b) (or-none (m == n)) in
    same ∙ elim (cases_lt at (length rows)) [
      | inl l ↦
          let none : (m == n) ≡ false = eq-false m n (λ e. omega (arith, times-absent n (map (node_of s) rows) absent, times-at s n at rows l e)) in
          ap (λ b. nat_lt at (length rows) && b) (sym (has_more ∙ ap (λ b. has m ns || b) none ∙ or-none (has m ns)))
      | inr l ↦ rw (lt-false at (length rows) l) refl
    ]

-- ---- sorted places

-- from the order of each two that stand side by side
pub up-from : (least : ℕ) (ps : List ℕ) → ((d : ℕ) → 0 < length ps → least ≤ get_or ps 0 d) → ((k d : ℕ) → suc k < length ps → get_or ps k d ≤ get_or ps (suc k) d) → AreUp least ps
up-from least [] first next = tt
up-from least (p ∷ ps) first next =
    (first 0 (omega arith), up-from p ps (λ d h. next 0 d (omega (arith, h))) (λ k d h. next (suc k) d (omega (arith, h))))

not-less : (a b : ℕ) → is_lt (nat_cmp a b) ≡ false → b ≤ a
not-less a b h = elim (cases_lt a b) [ inl l ↦ absurd (true≢false (rw (lt-true a b l) at h)) | inr l ↦ l ]

at-most : (a b : ℕ) → is_le (nat_cmp a b) ≡ true → a ≤ b
at-most a b h = elim (cases_lt b a) [
  | inl l ↦ absurd (true≢false (sym (rw (lt-false a b (omega (arith, l)), eq-false a b (λ e. omega (arith, l))) at h)))
  | inr l ↦ l
]

pub up-sorted : (ps : List ℕ) → IsSorted nat_cmp ps → AreUp 0 ps
up-sorted ps sorted = up-from 0 ps (λ d h. omega arith) (λ k d h.
    let e : k + 1 ≡ suc k = omega arith in
    not-less (get_or ps (suc k) d) (get_or ps k d) (subst (λ j. is_lt (nat_cmp (get_or ps j d) (get_or ps k d)) ≡ false) e (sorted k d (omega arith) (omega (arith, h)))))

pub up-adjacent : (ps : List ℕ) → ((k d : ℕ) → k + 1 < length ps → is_le (nat_cmp (get_or ps k d) (get_or ps (k + 1) d)) ≡ true) → AreUp 0 ps
up-adjacent ps sorted = up-from 0 ps (λ d h. omega arith) (λ k d h.
    let e : k + 1 ≡ suc k = omega arith in
    at-most (get_or ps k d) (get_or ps (suc k) d) (subst (λ j. is_le (nat_cmp (get_or ps k d) (get_or ps j d)) ≡ true) e (sorted k d (omega (arith, h)))))

-- each place is one of a row
pub all-within : (end : ℕ) (ps : List ℕ) → AreWithin end ps → All (λ p. p < end) ps
all-within end [] h = λ k d l. absurd (omega (arith, l))
all-within end (p ∷ ps) h = by (all-within end ps h.1)
  where
    by : ((k d : ℕ) → k < length ps → get_or ps k d < end) → (k d : ℕ) → k < length (p ∷ ps) → get_or (p ∷ ps) k d < end
    by later zero d l = h.0
    by later (suc k) d l = later k d (omega (arith, l))

-- ---- places that rise

-- each is greater than the one before it, from the least on, and all are less than an end
abbrev pub AreRising : ℕ → List ℕ → ℕ → Type 0
AreRising least [] end = least ≤ end
AreRising least (p ∷ ps) end = (least ≤ p) × AreRising (suc p) ps end

rising-more : (least : ℕ) (ps : List ℕ) (end at : ℕ) → AreRising least ps end → end ≤ at → AreRising least (ps ++ at ∷ []) (suc at)
rising-more least [] end at r h = (omega (arith, r, h), omega arith)
rising-more least (p ∷ ps) end at r h = (r.0, rising-more (suc p) ps end at r.1 h)

rising-up : (low least : ℕ) (ps : List ℕ) (end : ℕ) → low ≤ least → AreRising least ps end → AreUp low ps
rising-up low least [] end h r = tt
rising-up low least (p ∷ ps) end h r = (omega (arith, h, r.0), rising-up p (suc p) ps end (omega arith) r.1)

rising-once : (least : ℕ) (ps : List ℕ) (end : ℕ) → AreRising least ps end → each_once least ps ≡ ps
rising-once least [] end r = refl
rising-once least (p ∷ ps) end r = rw (lt-false p least r.0) (ap (λ l. p ∷ l) (rising-once (suc p) ps end r.1))

-- nodes that stand at places that rise, all before this one
pub record StandUp (s : Slab Slot) (rows : List Row) (ns : List ℕ) (next : ℕ) : Type 0 where
  pub places : List ℕ
  pub rising : AreRising 0 places next
  pub nodes : map (number_of_row s rows) places ≡ ns
  pub same : (at : ℕ) → is_among at places ≡ stands_one s rows ns at

pub up-none : (s : Slab Slot) (rows : List Row) → StandUp s rows [] 0
up-none s rows = record { places = []; rising = omega arith; nodes = refl; same = λ at. none (nat_lt at (length rows)) }
  where
    none : (b : Bool) → false ≡ (b && false)
    none true = refl
    none false = refl

pub up-more : (s : Slab Slot) (rows : List Row) (ns : List ℕ) (next n at : ℕ) → times n (map (node_of s) rows) ≤ 1 → StandUp s rows ns next → StandsAt s rows n at → next ≤ at
    → StandUp s rows (ns ++ n ∷ []) (at + 1)
up-more s rows ns next n at few up there h =
    let e : suc at ≡ at + 1 = omega arith in
    record {
      places = up.places ++ at ∷ [];
      rising = subst (AreRising 0 (up.places ++ at ∷ [])) e (rising-more 0 up.places next at up.rising h);
      nodes = map-append (number_of_row s rows) up.places (at ∷ []) ∙ ap (λ l. l ++ number_of_row s rows at ∷ []) up.nodes ∙ ap (λ m. ns ++ m ∷ []) there.number;
      same = λ k. rank-more s rows ns up.places n at k few there (up.same k);
    }

-- such nodes are in document order, each once
pub up-means : (s : Slab Slot) (rows : List Row) (ns : List ℕ) (next : ℕ) → StandUp s rows ns next → in_order (visits (map (node_of s) rows)) ns ≡ ns
up-means s rows ns next up =
    sym (order-means s rows ns up.places (rising-up 0 0 up.places next (omega arith) up.rising) up.same)
    ∙ ap (map (number_of_row s rows)) (rising-once 0 up.places next up.rising) ∙ up.nodes

-- the numbers of one node more
pub numbers-more : (i : ℕ) (nodes : List NodeId) (d : NodeId) → i < length nodes
    → map (λ (n : NodeId). n.number) (take (i + 1) nodes) ≡ map (λ (n : NodeId). n.number) (take i nodes) ++ (get_or nodes i d).number ∷ []
numbers-more i nodes d h = ap (map (λ (n : NodeId). n.number)) (take_more nodes i d h) ∙ map-append (λ (n : NodeId). n.number) (take i nodes) (get_or nodes i d ∷ [])

pub take-past : {X : Type 0} (i : ℕ) (xs : List X) → length xs ≤ i → take i xs ≡ xs
take-past zero [] h = refl
take-past zero (x ∷ xs) h = absurd (omega arith)
take-past (suc i) [] h = refl
take-past (suc i) (x ∷ xs) h = ap (λ l. x ∷ l) (take-past i xs (omega (arith, h)))
