-- An order of the graph over the calculated nodes tells their nodes in turn, in whatever order they stand in the data; and from nodes in turn
-- there is an order of the graph, as they stand now.
use Rattle.std.proofs.Common.{◌≡◌, ℕ, zero, suc, ◌^◌, ◌<◌, ◌==◌, nat_lt, Bool, true, false, cond, not, ◌&&◌, ◌||◌, List, [], ◌∷◌, ◌++◌, map, length, Option, Some, None, slice_get, refl, sym, ap, ◌∙◌, subst, arith, inl, inr}
use Rattle.std.specs.Prelude.{filter, if◌then◌else◌}
use Rattle.std.specs.List.{list_all, list_any}
use Rattle.std.proofs.lemmas.Bool.{cases_Bool, eqb-true, false≢true, ltb-true}
use Rattle.std.proofs.lemmas.Bool.Decides.{nat_tests}
use Rattle.xf_def_forest.specs.Forest.{Forest}
use Rattle.xf_def_forest.specs.Order.{in_order}
use Rattle.xf_def_forest.specs.Shape.{shape_of}
use Rattle.xf_def_forest.specs.Visit.{Visit, has, visits}
use Rattle.xf_def_forest.proofs.BackLaws.{and-true, not-true}
use Rattle.xf_def_forest.proofs.OrderLaws.{filter-sub, map-sub, sub-different, visits-different}
use Rattle.xf_graph.specs.Edges as graph
use Rattle.xf_graph.specs.Order.{EachOnce, IsOrder, ReadsBack}
use Rattle.xf_graph.proofs.HasLists.{has_cases, has_first, has_later}
use Rattle.xf_def_xpath.specs.Agree.{are_apart, numbers_of}
use Rattle.xf_def_xpath.specs.Binding.{as_list}
use Rattle.xf_def_xpath.proofs.VisitFacts.{no, none-some, or-cases, or-left, or-right, self-same, some-same}
use Rattle.xf_def_model.specs.Applied.{Entry}
use Rattle.xf_def_model.specs.Circular.{places_of}
use Rattle.xf_eval_shape.specs.Sound.{Sound}
use Rattle.xf_binds.specs.declared.web.Asks.{Asks}
use Rattle.xf_binds.specs.Turns.{AreInTurn, ReadBack, Source, calculated_nodes, depends, source_on}
use Rattle.xf_binds_rebuild.specs.Found.{is_small, is_there}
use Rattle.xf_binds_rebuild.specs.Links.{links, nodes_in, sources_in}
use Rattle.xf_binds_rebuild.specs.Order.{IsInOrder, nodes_of}
use Rattle.xf_binds_rebuild.proofs.Linked.{has-places, item-at, item-got, mapped-length, nodes-of, tested, zero-plus}
use Rattle.xf_binds_rebuild.proofs.Rebuilds.{of-nodes}
use Rattle.xf_binds_rebuild.proofs.Shown.{IsShown, shown-order}

-- ---- lists of numbers

same-true : (a b : Bool) → (a ≡ true → b ≡ true) → (b ≡ true → a ≡ true) → a ≡ b
same-true true true h k = refl
same-true true false h k = no (h refl)
same-true false true h k = no (k refl)
same-true false false h k = refl

off-true : (a : Bool) → (a ≡ true → false ≡ true) → a ≡ false
off-true true h = no (h refl)
off-true false h = refl

at-within : (xs : List ℕ) (p : ℕ) → p < length xs → (n : ℕ) × (slice_get xs p ≡ Some n)
at-within [] p l = absurd (omega (arith, l))
at-within (x ∷ xs) zero l = (x, refl)
at-within (x ∷ xs) (suc p) l = at-within xs p (omega (arith, l))

within-at : (xs : List ℕ) (p n : ℕ) → slice_get xs p ≡ Some n → p < length xs
within-at [] p n h = none-some h
within-at (x ∷ xs) zero n h = omega arith
within-at (x ∷ xs) (suc p) n h = (let l = within-at xs p n h in omega (arith, l))

there : (xs : List ℕ) (p n : ℕ) → slice_get xs p ≡ Some n → has n xs ≡ true
there [] p n h = none-some h
there (x ∷ xs) zero n h = or-left (n == x) (has n xs) (ap (λ m. n == m) (some-same h) ∙ self-same n)
there (x ∷ xs) (suc p) n h = or-right (n == x) (has n xs) (there xs p n h)

-- where a number stands
abbrev pub place_in : List ℕ → ℕ → ℕ
place_in [] n = 0
place_in (x ∷ xs) n = if n == x then 0 else suc (place_in xs n)

place-got : (xs : List ℕ) (n : ℕ) → has n xs ≡ true → slice_get xs (place_in xs n) ≡ Some n
place-got [] n h = no h
place-got (x ∷ xs) n h = by (n == x) refl h (place-got xs n)
  where
    by : (b : Bool) → (n == x) ≡ b → (b || has n xs) ≡ true → (has n xs ≡ true → slice_get xs (place_in xs n) ≡ Some n) → slice_get (x ∷ xs) (cond b 0 (suc (place_in xs n))) ≡ Some n
    by true e i later = ap Some (sym (eqb-true n x e))
    by false e i later = later i

one-place : (xs : List ℕ) (p q n : ℕ) → are_apart xs ≡ true → slice_get xs p ≡ Some n → slice_get xs q ≡ Some n → p ≡ q
one-place [] p q n apart h k = none-some h
one-place (x ∷ xs) zero zero n apart h k = refl
one-place (x ∷ xs) zero (suc q) n apart h k = no (sym (not-true (has x xs) (and-true (not (has x xs)) (are_apart xs) apart).0) ∙ ap (λ m. has m xs) (some-same h) ∙ there xs q n k)
one-place (x ∷ xs) (suc p) zero n apart h k = no (sym (not-true (has x xs) (and-true (not (has x xs)) (are_apart xs) apart).0) ∙ ap (λ m. has m xs) (some-same k) ∙ there xs p n h)
one-place (x ∷ xs) (suc p) (suc q) n apart h k = ap suc (one-place xs p q n (and-true (not (has x xs)) (are_apart xs) apart).1 h k)

none-any : {X : Type 0} (test : X → Bool) (f : ℕ → X) (ns : List ℕ) → ((n : ℕ) → has n ns ≡ true → test (f n) ≡ false) → list_any test (map f ns) ≡ false
none-any test f [] h = refl
none-any test f (n ∷ ns) h =
    ap (λ b. b || list_any test (map f ns)) (h n (or-left (n == n) (has n ns) (self-same n)))
    ∙ none-any test f ns (λ m i. h m (or-right (m == n) (has m ns) i))

any-none : {X : Type 0} (test : X → Bool) (f : ℕ → X) (ns : List ℕ) (n : ℕ) → list_any test (map f ns) ≡ false → has n ns ≡ true → test (f n) ≡ false
any-none test f [] n h i = no i
any-none test f (m ∷ ms) n h i = off-true (test (f n)) (λ t. sym h ∙ elim (or-cases (n == m) (has n ms) i) [
  | inl same ↦ or-left (test (f m)) (list_any test (map f ms)) (ap (λ k. test (f k)) (sym (eqb-true n m same)) ∙ t)
  | inr later ↦ or-right (test (f m)) (list_any test (map f ms)) (some ms later t)
])
  where
    some : (ks : List ℕ) → has n ks ≡ true → test (f n) ≡ true → list_any test (map f ks) ≡ true
    some [] j t = no j
    some (k ∷ ks) j t = elim (or-cases (n == k) (has n ks) j) [
      | inl same ↦ or-left (test (f k)) (list_any test (map f ks)) (ap (λ l. test (f l)) (sym (eqb-true n k same)) ∙ t)
      | inr later ↦ or-right (test (f k)) (list_any test (map f ks)) (some ks later t)
    ]

-- ---- the nodes at places of a list

module _ (base : List ℕ) where
  from-places : (places : List ℕ) (n : ℕ) → has n (nodes_in base places) ≡ true → (p : ℕ) × ((graph.has places p ≡ true) × (slice_get base p ≡ Some n))
  from-places [] n h = no h
  from-places (p ∷ ps) n h = by (slice_get base p) refl h (from-places ps n)
    where
      later : (p : ℕ) × ((graph.has ps p ≡ true) × (slice_get base p ≡ Some n)) → (q : ℕ) × ((graph.has (p ∷ ps) q ≡ true) × (slice_get base q ≡ Some n))
      later r = (r.0, (has_later p r.0 ps r.1.0, r.1.1))

      by : (o : Option ℕ) → slice_get base p ≡ o → has n (as_list o ++ nodes_in base ps) ≡ true → (has n (nodes_in base ps) ≡ true → (q : ℕ) × ((graph.has ps q ≡ true) × (slice_get base q ≡ Some n))) →
          (q : ℕ) × ((graph.has (p ∷ ps) q ≡ true) × (slice_get base q ≡ Some n))
      by None e i more = later (more i)
      by (Some m) e i more = elim (or-cases (n == m) (has n (nodes_in base ps)) i) [
        | inl same ↦ (p, (has_first p ps, e ∙ ap Some (sym (eqb-true n m same))))
        | inr rest ↦ later (more rest)
      ]

  to-places : (places : List ℕ) (p n : ℕ) → graph.has places p ≡ true → slice_get base p ≡ Some n → has n (nodes_in base places) ≡ true
  to-places [] p n h k = no h
  to-places (q ∷ qs) p n h k = elim (has_cases q p qs h) [
    | inl same ↦ ap (λ o. has n (as_list o ++ nodes_in base qs)) (ap (slice_get base) same ∙ k) ∙ or-left (n == n) (has n (nodes_in base qs)) (self-same n)
    | inr rest ↦ by (slice_get base q) (to-places qs p n rest k)
  ]
    where
      by : (o : Option ℕ) → has n (nodes_in base qs) ≡ true → has n (as_list o ++ nodes_in base qs) ≡ true
      by None i = i
      by (Some m) i = or-right (n == m) (has n (nodes_in base qs)) i

-- ---- the graph over calculated nodes, in this order

module _ (entries : List Entry) (web : List Asks) (base : List ℕ) (apart : are_apart base ≡ true) (members : (n : ℕ) → has n base ≡ has n (calculated_nodes entries)) where
  abbrev sources : List Source
  sources = map (source_on entries web) base

  abbrev reads : Source → Source → Bool
  reads source reader = depends source reader.asks.reads

  size : length (links sources) ≡ length base
  size = mapped-length (λ s. places_of (reads s) sources) sources ∙ mapped-length (source_on entries web) base

  edge-is : (q p a b : ℕ) → slice_get base q ≡ Some a → slice_get base p ≡ Some b → graph.has_edge (links sources) q p ≡ depends (source_on entries web a) (source_on entries web b).asks.reads
  edge-is q p a b h k =
      ap (λ l. graph.has l p) (item-at (λ s. places_of (reads s) sources) sources q (source_on entries web a) [] (item-got (source_on entries web) base q a h))
      ∙ ap (graph.has (places_of (reads (source_on entries web a)) sources)) (sym (zero-plus p))
      ∙ has-places 0 (reads (source_on entries web a)) sources p
      ∙ ap (tested (reads (source_on entries web a))) (item-got (source_on entries web) base p b k)

  -- ---- nodes in turn, from an order

  once-from : (places : List ℕ) → EachOnce places → are_apart (nodes_in base places) ≡ true
  once-from [] once = refl
  once-from (p ∷ ps) once = by (slice_get base p) refl (once-from ps once.1)
    where
      by : (o : Option ℕ) → slice_get base p ≡ o → are_apart (nodes_in base ps) ≡ true → are_apart (as_list o ++ nodes_in base ps) ≡ true
      by None e rest = rest
      by (Some m) e rest = ap (λ b. not b && are_apart (nodes_in base ps)) none ∙ rest
        where
          twice : has m (nodes_in base ps) ≡ true → false ≡ true
          twice h = let q = from-places base ps m h in sym once.0 ∙ ap (graph.has ps) (one-place base p q.0 m apart e q.1.1) ∙ q.1.0

          none : has m (nodes_in base ps) ≡ false
          none = off-true (has m (nodes_in base ps)) twice

  back-from : (places : List ℕ) → ReadsBack (links sources) places → ReadBack (map (source_on entries web) (nodes_in base places))
  back-from [] back = tt
  back-from (p ∷ ps) back = by (slice_get base p) refl (back-from ps back.1)
    where
      by : (o : Option ℕ) → slice_get base p ≡ o → ReadBack (map (source_on entries web) (nodes_in base ps)) → ReadBack (map (source_on entries web) (as_list o ++ nodes_in base ps))
      by None e rest = rest
      by (Some m) e rest = (none-any (λ s. reads s (source_on entries web m)) (source_on entries web) (m ∷ nodes_in base ps) off, rest)
        where
          off : (n : ℕ) → has n (m ∷ nodes_in base ps) ≡ true → reads (source_on entries web n) (source_on entries web m) ≡ false
          off n h =
              let q = from-places base (p ∷ ps) n (subst (λ o. has n (as_list o ++ nodes_in base ps) ≡ true) (sym e) h) in
              sym (edge-is q.0 p n m q.1.1 e) ∙ back.0 q.0 q.1.0

  pub in-turn : (places : List ℕ) → IsOrder (links sources) places → AreInTurn entries web (nodes_in base places)
  in-turn places order = record { all = λ n. same-true (has n (nodes_in base places)) (has n base) (forth n) (back n) ∙ members n; once = once-from places order.once; read_back = back-from places order.reads_back }
    where
      forth : (n : ℕ) → has n (nodes_in base places) ≡ true → has n base ≡ true
      forth n h = let q = from-places base places n h in there base q.0 n q.1.1

      below : (p : ℕ) → p < length base → nat_lt p (length (links sources)) ≡ true
      below p l = ap (nat_lt p) size ∙ (let t : nat_lt p (length base) ≡ true = grind (arith, nat_tests, l) in t)

      back : (n : ℕ) → has n base ≡ true → has n (nodes_in base places) ≡ true
      back n h =
          let got = place-got base n h in
          to-places base places (place_in base n) n (order.all (place_in base n) ∙ below (place_in base n) (within-at base (place_in base n) n got)) got

  -- ---- an order, from nodes in turn

  abbrev placed : List ℕ → List ℕ
  placed ns = map (place_in base) ns

  abbrev Within : List ℕ → Type 0
  Within ns = (n : ℕ) → has n ns ≡ true → has n base ≡ true

  rest-within : (n : ℕ) (ns : List ℕ) → Within (n ∷ ns) → Within ns
  rest-within n ns within = λ m h. within m (or-right (m == n) (has m ns) h)

  first-within : (n : ℕ) (ns : List ℕ) → Within (n ∷ ns) → has n base ≡ true
  first-within n ns within = within n (or-left (n == n) (has n ns) (self-same n))

  from-placed : (ns : List ℕ) (p : ℕ) → graph.has (placed ns) p ≡ true → (n : ℕ) × ((has n ns ≡ true) × (place_in base n ≡ p))
  from-placed [] p h = no h
  from-placed (n ∷ ns) p h = elim (has_cases (place_in base n) p (placed ns) h) [
    | inl same ↦ (n, (or-left (n == n) (has n ns) (self-same n), same))
    | inr rest ↦ (let r = from-placed ns p rest in (r.0, (or-right (r.0 == n) (has r.0 ns) r.1.0, r.1.1)))
  ]

  to-placed : (ns : List ℕ) (n : ℕ) → has n ns ≡ true → graph.has (placed ns) (place_in base n) ≡ true
  to-placed [] n h = no h
  to-placed (m ∷ ms) n h = elim (or-cases (n == m) (has n ms) h) [
    | inl same ↦ subst (λ k. graph.has (place_in base m ∷ placed ms) (place_in base k) ≡ true) (sym (eqb-true n m same)) (has_first (place_in base m) (placed ms))
    | inr rest ↦ has_later (place_in base m) (place_in base n) (placed ms) (to-placed ms n rest)
  ]

  nodes-placed : (ns : List ℕ) → Within ns → ns ≡ nodes_in base (placed ns)
  nodes-placed [] within = refl
  nodes-placed (n ∷ ns) within =
      ap (λ l. n ∷ l) (nodes-placed ns (rest-within n ns within))
      ∙ sym (ap (λ o. as_list o ++ nodes_in base (placed ns)) (place-got base n (first-within n ns within)))

  once-placed : (ns : List ℕ) → are_apart ns ≡ true → Within ns → EachOnce (placed ns)
  once-placed [] once within = tt
  once-placed (n ∷ ns) once within = (off-true (graph.has (placed ns) (place_in base n)) twice, once-placed ns parts.1 (rest-within n ns within))
    where
      parts : (not (has n ns) ≡ true) × (are_apart ns ≡ true)
      parts = and-true (not (has n ns)) (are_apart ns) once

      twice : graph.has (placed ns) (place_in base n) ≡ true → false ≡ true
      twice h =
          let m = from-placed ns (place_in base n) h in
          let same : n ≡ m.0 = some-same (sym (place-got base n (first-within n ns within)) ∙ ap (slice_get base) (sym m.1.1) ∙ place-got base m.0 (rest-within n ns within m.0 m.1.0)) in
          sym (not-true (has n ns) parts.0) ∙ ap (λ k. has k ns) same ∙ m.1.0

  back-placed : (ns : List ℕ) → ReadBack (map (source_on entries web) ns) → Within ns → ReadsBack (links sources) (placed ns)
  back-placed [] back within = tt
  back-placed (n ∷ ns) back within = (off, back-placed ns back.1 (rest-within n ns within))
    where
      off : (p : ℕ) → graph.has (placed (n ∷ ns)) p ≡ true → graph.has_edge (links sources) p (place_in base n) ≡ false
      off p h =
          let m = from-placed (n ∷ ns) p h in
          edge-is p (place_in base n) m.0 n (ap (slice_get base) (sym m.1.1) ∙ place-got base m.0 (within m.0 m.1.0)) (place-got base n (first-within n ns within))
          ∙ any-none (λ s. reads s (source_on entries web n)) (source_on entries web) (n ∷ ns) m.0 back.0 m.1.0

  pub in-order : (ns : List ℕ) → AreInTurn entries web ns → IsInOrder sources (Some ns)
  in-order ns turns = (placed ns, order, nodes-placed ns within ∙ ap (λ l. nodes_in l (placed ns)) (sym (nodes-of entries web base)))
    where
      within : Within ns
      within n h = members n ∙ sym (turns.all n) ∙ h

      forth : (p : ℕ) → graph.has (placed ns) p ≡ true → nat_lt p (length base) ≡ true
      forth p h =
          let m = from-placed ns p h in
          let l = within-at base p m.0 (ap (slice_get base) (sym m.1.1) ∙ place-got base m.0 (within m.0 m.1.0)) in
          (let t : nat_lt p (length base) ≡ true = grind (arith, nat_tests, l) in t)

      back : (p : ℕ) → nat_lt p (length base) ≡ true → graph.has (placed ns) p ≡ true
      back p h =
          let n = at-within base p (ltb-true p (length base) h) in
          let here : has n.0 base ≡ true = there base p n.0 n.1 in
          let same : place_in base n.0 ≡ p = one-place base (place_in base n.0) p n.0 apart (place-got base n.0 here) n.1 in
          ap (graph.has (placed ns)) (sym same) ∙ to-placed ns n.0 (turns.all n.0 ∙ sym (members n.0) ∙ here)

      order : IsOrder (links sources) (placed ns)
      order = record { all = λ p. same-true (graph.has (placed ns) p) (nat_lt p (length base)) (forth p) (back p) ∙ ap (nat_lt p) (sym size); once = once-placed ns turns.once within; reads_back = back-placed ns turns.read_back within }

-- ---- in document order

ordered-has : (all : List Visit) (ns : List ℕ) (n : ℕ) → has n (in_order all ns) ≡ (has n (numbers_of all) && has n ns)
ordered-has [] ns n = refl
ordered-has (x ∷ xs) ns n = by (has x.number ns) (n == x.number) refl refl (ordered-has xs ns n)
  where
    by : (b c : Bool) → has x.number ns ≡ b → (n == x.number) ≡ c → has n (in_order xs ns) ≡ (has n (numbers_of xs) && has n ns) →
        has n (map (λ (y : Visit). y.number) (cond b (x ∷ filter (λ y. has y.number ns) xs) (filter (λ y. has y.number ns) xs))) ≡ ((c || has n (numbers_of xs)) && has n ns)
    by true true e i rest = ap (λ c. c || has n (in_order xs ns)) i ∙ sym (ap (λ m. has m ns) (eqb-true n x.number i) ∙ e)
    by true false e i rest = ap (λ c. c || has n (in_order xs ns)) i ∙ rest
    by false true e i rest = rest ∙ ap (λ c. has n (numbers_of xs) && c) off ∙ none (has n (numbers_of xs)) ∙ sym off
      where
        off : has n ns ≡ false
        off = ap (λ m. has m ns) (eqb-true n x.number i) ∙ e

        none : (a : Bool) → (a && false) ≡ false
        none true = refl
        none false = refl
    by false false e i rest = rest

module _ (forest : Forest) (sound : Sound forest) (entries : List Entry) (placed : list_all (is_there forest.nodes) entries ≡ true) (small : list_all is_small entries ≡ true) where
  abbrev nodes : List ℕ
  nodes = in_order (visits forest.nodes) (calculated_nodes entries)

  shown : (n : ℕ) → has n (calculated_nodes entries) ≡ true → IsShown forest sound n
  shown n h = (
    of-nodes (λ m. has m (numbers_of (shape_of forest.nodes))) entries placed n h,
    of-nodes (λ m. nat_lt m (2 ^ 128)) entries small n h,
  )

  nodes-apart : are_apart nodes ≡ true
  nodes-apart = sub-different (map-sub (λ (x : Visit). x.number) (filter-sub (λ x. has x.number (calculated_nodes entries)) (visits forest.nodes))) (visits-different forest sound.trees)

  nodes-members : (n : ℕ) → has n nodes ≡ has n (calculated_nodes entries)
  nodes-members n =
      ap (has n) (sym (shown-order forest sound (calculated_nodes entries) shown))
      ∙ ordered-has (shape_of forest.nodes) (calculated_nodes entries) n
      ∙ by (has n (calculated_nodes entries)) refl
    where
      none : (a : Bool) → (a && false) ≡ false
      none true = refl
      none false = refl

      by : (b : Bool) → has n (calculated_nodes entries) ≡ b → (has n (numbers_of (shape_of forest.nodes)) && b) ≡ b
      by true e = ap (λ a. a && true) (shown n e).0
      by false e = none (has n (numbers_of (shape_of forest.nodes)))

  pub turns-found : (web : List Asks) (found : List ℕ) → IsInOrder (sources_in (visits forest.nodes) entries web) (Some found) → AreInTurn entries web found
  turns-found web found o =
      subst (AreInTurn entries web) (sym (o.2 ∙ ap (λ l. nodes_in l o.0) (nodes-of entries web nodes)))
      (in-turn entries web nodes nodes-apart nodes-members o.0 o.1)

  pub order-found : (web : List Asks) (found : List ℕ) → AreInTurn entries web found → IsInOrder (sources_in (visits forest.nodes) entries web) (Some found)
  order-found web found turns = in-order entries web nodes nodes-apart nodes-members found turns
