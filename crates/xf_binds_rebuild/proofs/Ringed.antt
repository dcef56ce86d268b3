-- The graph by what is kept of the calculates is the one that is defined, and so is the ring that is reported.
use Rattle.std.proofs.Common.{◌≡◌, ℕ, zero, suc, ◌^◌, ◌==◌, nat_lt, Bool, true, false, cond, not, ◌&&◌, ◌||◌, ◌⊎◌, List, [], ◌∷◌, ◌++◌, map, length, Option, Some, None, option_map, slice_get, refl, sym, ap, ◌∙◌, subst, inl, inr}
use Rattle.std.specs.Prelude.{filter}
use Rattle.std.specs.List.{list_any, flat_map}
use Rattle.std.proofs.lemmas.Bool.{eqb-true, cases_Bool}
use Rattle.xf_def_forest.specs.Visit.{Visit, has, ancestors_of}
use Rattle.xf_def_forest.specs.Order.{in_order}
use Rattle.xf_def_xpath.proofs.VisitFacts.{no, self-same, turned, or-left, or-right}
use Rattle.xf_def_xpath.specs.Binding.{as_list}
use Rattle.xf_def_model.specs.declared.property.Property.{Property}
use Rattle.xf_def_model.specs.declared.property.Property.TheVariants.{Kind, Calculate, Relevant, Readonly, Required, Constraint}
use Rattle.xf_def_model.specs.Rules.{Scope}
use Rattle.xf_def_model.specs.Applied.{Entry, place_of, is_property, is_calculate, sets_same}
use Rattle.xf_def_model.specs.Entries.{is_computed, reads_of, looks_of, touches}
use Rattle.xf_def_model.specs.Circular.{Reader, by_nodes, calculated, places_from, places_of, dependents, nodes_at}
use Rattle.xf_def_model.specs.Properties.{sets_on}
use Rattle.xf_def_machine.specs.Cycles.{reported_cycle}
use Rattle.xf_binds.specs.declared.web.Asks.{Asks}
use Rattle.xf_binds_rebuild.specs.Web.{asks_by, asks_of}
use Rattle.xf_binds_rebuild.specs.Links.{Source, depends, links, asks_on, source_on, calculated_nodes, nodes_in, ring_of}
use Rattle.xf_binds_rebuild.proofs.Entered.{NoneTwice}

-- ---- one calculate of a node

calculate-is : (p : Property) → is_property p Calculate ≡ true → p ≡ Calculate
calculate-is Kind h = no h
calculate-is Calculate h = refl
calculate-is Relevant h = no h
calculate-is Readonly h = no h
calculate-is Required h = no h
calculate-is Constraint h = no h

abbrev calculates_on : List Entry → ℕ → List Entry
calculates_on es n = filter (λ e. e.node == n) (filter is_calculate es)

not-both : (e x : Entry) (n : ℕ) (b : Bool) → sets_same e x ≡ false → e.property ≡ Calculate → x.property ≡ Calculate → e.node ≡ n → (x.node == n) ≡ true → b ≡ true
not-both e x n b apart p q here there =
    no (sym apart
    ∙ ap (λ c. c && is_property e.property x.property) (ap (λ m. m == x.node) (here ∙ sym (eqb-true x.node n there)) ∙ self-same x.node)
    ∙ ap (λ r. is_property r x.property) p ∙ ap (λ r. is_property Calculate r) q)

either-none : (a b : Bool) → (a || b) ≡ false → (a ≡ false) × (b ≡ false)
either-none true b h = no (sym h)
either-none false b h = (refl, h)

none-else : (e : Entry) (es : List Entry) (n : ℕ) → list_any (sets_same e) es ≡ false → e.property ≡ Calculate → e.node ≡ n → calculates_on es n ≡ []
none-else e [] n h p here = refl
none-else e (x ∷ xs) n h p here = by (is_calculate x) refl (none-else e xs n (either-none (sets_same e x) (list_any (sets_same e) xs) h).1 p here)
  where
    apart : sets_same e x ≡ false
    apart = (either-none (sets_same e x) (list_any (sets_same e) xs) h).0

    of : (b : Bool) → (x.node == n) ≡ b → is_calculate x ≡ true → calculates_on xs n ≡ [] → cond b (x ∷ calculates_on xs n) (calculates_on xs n) ≡ []
    of true i c rest = no (not-both e x n false apart p (calculate-is x.property c) here i)
    of false i c rest = rest

    by : (b : Bool) → is_calculate x ≡ b → calculates_on xs n ≡ [] → filter (λ y. y.node == n) (cond b (x ∷ filter is_calculate xs) (filter is_calculate xs)) ≡ []
    by true c rest = of (x.node == n) refl c rest
    by false c rest = rest

module _ (scope : Scope) (all : List Visit) where
  abbrev source_by : Entry → Source
  source_by e = record { node = e.node; asks = record { reads = reads_of scope all e; looks = looks_of scope all e; above = ancestors_of e.node all } }

  abbrev reader_by : Entry → Reader
  reader_by e = record { node = e.node; reads = reads_of scope all e }

  abbrev web : List Entry → List Asks
  web es = map (asks_of scope all) es

  -- the node has no calculate, or one
  abbrev Single : List Entry → ℕ → Type 0
  Single es n =
      ((calculates_on es n ≡ []) × (has n (calculated_nodes es) ≡ false))
      ⊎ ((e : Entry) × (calculates_on es n ≡ e ∷ []) × (has n (calculated_nodes es) ≡ true) × (source_on es (map (asks_of scope all) es) n ≡ source_by e))

  -- a node with this calculate in front
  first-single : (e : Entry) (es : List Entry) (n : ℕ) → is_calculate e ≡ true → e.node ≡ n → list_any (sets_same e) es ≡ false → Single (e ∷ es) n
  first-single e es n c here apart =
      let p : e.property ≡ Calculate = calculate-is e.property c in
      let is : (e.node == n) ≡ true = ap (λ m. m == n) here ∙ self-same n in
      let computed : is_computed e ≡ true = ap (λ q. not (is_property q Kind)) p in
      inr (
        e,
        ap (λ b. filter (λ x. x.node == n) (cond b (e ∷ filter is_calculate es) (filter is_calculate es))) c
            ∙ ap (λ b. cond b (e ∷ calculates_on es n) (calculates_on es n)) is
            ∙ ap (λ l. e ∷ l) (none-else e es n apart p here),
        ap (λ b. has n (map (λ (x : Entry). x.node) (cond b (e ∷ filter is_calculate es) (filter is_calculate es)))) c
            ∙ or-left (n == e.node) (has n (calculated_nodes es)) (turned n e.node ∙ is),
        ap (λ (asks : Asks). record { node = n; asks = asks })
            (ap (λ b. cond (b && is_property e.property Calculate) (asks_of scope all e) (asks_on es (map (asks_of scope all) es) n)) is
            ∙ ap (λ b. cond b (asks_of scope all e) (asks_on es (map (asks_of scope all) es) n)) c
            ∙ ap (asks_by scope all e) computed)
            ∙ ap (λ m. record { node = m; asks = record { reads = reads_of scope all e; looks = looks_of scope all e; above = ancestors_of e.node all } }) (sym here),
      )

  -- another entry in front changes nothing
  later-single : (e : Entry) (es : List Entry) (n : ℕ) → ((is_calculate e ≡ false) ⊎ ((is_calculate e ≡ true) × ((e.node == n) ≡ false))) → Single es n → Single (e ∷ es) n
  later-single e es n other s = elim s [
    | inl none ↦ inl (same other ∙ none.0, kept other ∙ none.1)
    | inr one ↦ inr (one.0, same other ∙ one.1, kept other ∙ one.2, ap (λ (asks : Asks). record { node = n; asks = asks }) (asked other) ∙ one.3)
  ]
    where
      same : ((is_calculate e ≡ false) ⊎ ((is_calculate e ≡ true) × ((e.node == n) ≡ false))) → calculates_on (e ∷ es) n ≡ calculates_on es n
      same (inl c) = ap (λ b. filter (λ x. x.node == n) (cond b (e ∷ filter is_calculate es) (filter is_calculate es))) c
      same (inr (c, m)) = ap (λ b. filter (λ x. x.node == n) (cond b (e ∷ filter is_calculate es) (filter is_calculate es))) c ∙ ap (λ b. cond b (e ∷ calculates_on es n) (calculates_on es n)) m

      kept : ((is_calculate e ≡ false) ⊎ ((is_calculate e ≡ true) × ((e.node == n) ≡ false))) → has n (calculated_nodes (e ∷ es)) ≡ has n (calculated_nodes es)
      kept (inl c) = ap (λ b. has n (map (λ (x : Entry). x.node) (cond b (e ∷ filter is_calculate es) (filter is_calculate es)))) c
      kept (inr (c, m)) =
          ap (λ b. has n (map (λ (x : Entry). x.node) (cond b (e ∷ filter is_calculate es) (filter is_calculate es)))) c
          ∙ ap (λ b. b || has n (calculated_nodes es)) (turned n e.node ∙ m)

      and-false : (b : Bool) → (b && false) ≡ false
      and-false true = refl
      and-false false = refl

      asked : ((is_calculate e ≡ false) ⊎ ((is_calculate e ≡ true) × ((e.node == n) ≡ false))) → asks_on (e ∷ es) (map (asks_of scope all) (e ∷ es)) n ≡ asks_on es (map (asks_of scope all) es) n
      asked (inl c) = ap (λ b. cond b (asks_of scope all e) (asks_on es (map (asks_of scope all) es) n)) (ap (λ b. (e.node == n) && b) c ∙ and-false (e.node == n))
      asked (inr (c, m)) = ap (λ b. cond (b && is_property e.property Calculate) (asks_of scope all e) (asks_on es (map (asks_of scope all) es) n)) m

  single : (es : List Entry) → NoneTwice es → (n : ℕ) → Single es n
  single [] h n = inl (refl, refl)
  single (e ∷ es) h n = elim (cases_Bool (is_calculate e)) [
    | inl c ↦ elim (cases_Bool (e.node == n)) [
      | inl m ↦ first-single e es n c (eqb-true e.node n m) h.0
      | inr m ↦ later-single e es n (inr (c, m)) (single es h.1 n)
    ]
    | inr c ↦ later-single e es n (inl c) (single es h.1 n)
  ]

  -- ---- in document order

  module _ (es : List Entry) (apart : NoneTwice es) where
    step : (n : ℕ) (ns : List ℕ) (calcs : List Entry) → map (source_on es (map (asks_of scope all) es)) ns ≡ map source_by calcs
        → (b : Bool) → has n (calculated_nodes es) ≡ b → Single es n
        → map (source_on es (map (asks_of scope all) es)) (cond b (n ∷ ns) ns) ≡ map source_by (calculates_on es n ++ calcs)
    step n ns calcs rest true i (inl none) = no (sym none.1 ∙ i)
    step n ns calcs rest false i (inl none) = rest ∙ ap (λ l. map source_by (l ++ calcs)) (sym none.0)
    step n ns calcs rest true i (inr one) =
        ap (λ (s : Source). s ∷ map (source_on es (map (asks_of scope all) es)) ns) one.3
        ∙ ap (λ l. source_by one.0 ∷ l) rest
        ∙ ap (λ l. map source_by (l ++ calcs)) (sym one.1)
    step n ns calcs rest false i (inr one) = no (sym i ∙ one.2)

    order-cond : (b : Bool) (x : Visit) (xs : List Visit) → map (λ (y : Visit). y.number) (cond b (x ∷ xs) xs) ≡ cond b (x.number ∷ map (λ (y : Visit). y.number) xs) (map (λ (y : Visit). y.number) xs)
    order-cond true x xs = refl
    order-cond false x xs = refl

    sources-from : (xs : List Visit) → map (source_on es (map (asks_of scope all) es)) (in_order xs (calculated_nodes es)) ≡ map source_by (by_nodes xs (filter is_calculate es))
    sources-from [] = refl
    sources-from (x ∷ xs) =
        ap (map (source_on es (map (asks_of scope all) es))) (order-cond (has x.number (calculated_nodes es)) x (filter (λ y. has y.number (calculated_nodes es)) xs))
        ∙ step x.number (in_order xs (calculated_nodes es)) (by_nodes xs (filter is_calculate es)) (sources-from xs) (has x.number (calculated_nodes es)) refl (single es apart x.number)

  -- ---- the same graph

  places-map : {X Y : Type 0} (at : ℕ) (test : Y → Bool) (f : X → Y) (xs : List X) → places_from at test (map f xs) ≡ places_from at (λ x. test (f x)) xs
  places-map at test f [] = refl
  places-map at test f (x ∷ xs) = ap (λ l. cond (test (f x)) (at ∷ l) l) (places-map (suc at) test f xs)

  map-twice : {X Y Z : Type 0} (g : Y → Z) (f : X → Y) (h : X → Z) → ((x : X) → g (f x) ≡ h x) → (xs : List X) → map g (map f xs) ≡ map h xs
  map-twice g f h e [] = refl
  map-twice g f h e (x ∷ xs) = ap (λ z. z ∷ map g (map f xs)) (e x) ∙ ap (λ l. h x ∷ l) (map-twice g f h e xs)

  alike : (calcs : List Entry) → links (map source_by calcs) ≡ dependents all (map reader_by calcs)
  alike calcs =
      let h : Entry → List ℕ = λ e. places_from 0 (λ other. touches all (reads_of scope all other) e.node) calcs in
      map-twice (λ (s : Source). places_of (λ (reader : Source). depends s reader.asks.reads) (map source_by calcs)) source_by h
      (λ e. places-map 0 (λ (reader : Source). depends (source_by e) reader.asks.reads) source_by calcs) calcs
      ∙ sym (map-twice (λ (source : Reader). places_of (λ (reader : Reader). touches all reader.reads source.node) (map reader_by calcs)) reader_by h
      (λ e. places-map 0 (λ (reader : Reader). touches all reader.reads e.node) reader_by calcs) calcs)

  pub ring-alike : (es : List Entry) → NoneTwice es
      → ring_of (map (source_on es (map (asks_of scope all) es)) (in_order all (calculated_nodes es)))
      ≡ option_map (nodes_at (calculated scope all es)) (reported_cycle (dependents all (calculated scope all es)))
  ring-alike es apart =
      let calcs = by_nodes all (filter is_calculate es) in
      ap ring_of (sources-from es apart all)
      ∙ ap (λ graph. option_map (nodes_in (map (λ (s : Source). s.node) (map source_by calcs))) (reported_cycle graph)) (alike calcs)
      ∙ ap (λ ns. option_map (nodes_in ns) (reported_cycle (dependents all (map reader_by calcs))))
      (map-twice (λ (s : Source). s.node) source_by (λ (e : Entry). e.node) (λ e. refl) calcs ∙ sym (map-twice (λ (r : Reader). r.node) reader_by (λ (e : Entry). e.node) (λ e. refl) calcs))

  pub linked-alike : (es : List Entry) → NoneTwice es
      → links (map (source_on es (map (asks_of scope all) es)) (in_order all (calculated_nodes es))) ≡ dependents all (calculated scope all es)
  linked-alike es apart = ap links (sources-from es apart all) ∙ alike (by_nodes all (filter is_calculate es))

  pub nodes-alike : (es : List Entry) → NoneTwice es
      → map (λ (s : Source). s.node) (map (source_on es (map (asks_of scope all) es)) (in_order all (calculated_nodes es))) ≡ map (λ (e : Entry). e.node) (by_nodes all (filter is_calculate es))
  nodes-alike es apart = ap (map (λ (s : Source). s.node)) (sources-from es apart all) ∙ map-twice (λ (s : Source). s.node) source_by (λ (e : Entry). e.node) (λ e. refl) (by_nodes all (filter is_calculate es))
