-- The calculates in an order of the graph by what is kept of them are turns.
use Rattle.std.proofs.Common.{◌≡◌, ℕ, ◌^◌, ◌<◌, ◌==◌, Bool, true, false, not, cond, ◌||◌, ◌&&◌, List, [], ◌∷◌, map, length, nat_lt, Some, refl, sym, ap, ◌∙◌, subst}
use Rattle.std.specs.Prelude.{filter}
use Rattle.std.specs.List.{list_all, list_any}
use Rattle.std.proofs.lemmas.Bool.{ltb-true}
use Rattle.xf_def_syntax.specs.declared.form.Tables.{Tables}
use Rattle.xf_def_forest.specs.Forest.{Forest, is_text}
use Rattle.xf_def_forest.specs.Order.{in_order}
use Rattle.xf_def_forest.specs.Shape.{erased, shape_of}
use Rattle.xf_def_forest.specs.Visit.{Visit, has, visits}
use Rattle.xf_def_forest.proofs.BackLaws.{and-true, not-true}
use Rattle.xf_def_forest.proofs.OrderLaws.{visits-different}
use Rattle.xf_funcs.specs.Called.{called}
use Rattle.xf_graph.specs.Order.{IsOrder}
use Rattle.xf_graph.specs.Edges as graph
use Rattle.xf_def_xpath.specs.Agree.{are_apart, numbers_of, untexted}
use Rattle.xf_def_xpath.specs.Given.{Given}
use Rattle.xf_def_xpath.proofs.VisitFacts.{no, or-right, present, self-same, turned}
use Rattle.xf_def_model.specs.Rules.{Scope}
use Rattle.xf_def_model.specs.Applied.{Entry, all_entries}
use Rattle.xf_def_model.specs.Circular.{by_nodes, calculated, graph_over}
use Rattle.xf_def_model.specs.Entries.{reads_of}
use Rattle.xf_def_model.specs.Settled.{bounds, calculates}
use Rattle.xf_def_model.specs.Pertinent.{AllOf}
use Rattle.xf_def_model.proofs.CircularLemmas.{StandsAt, length-mapped, size-of_graph}
use Rattle.xf_def_model.proofs.EachLemmas.{each_then}
use Rattle.xf_law_recalculation.specs.Agree.InTurn.{AreSingle, AtPlaces}
use Rattle.xf_law_recalculation.specs.Agree.Settles.{IsSolid}
use Rattle.xf_law_recalculation.proofs.AgreeLemmas.FormInTurn as form
use Rattle.xf_law_recalculation.proofs.AgreeLemmas.FormSettable.{entries_solid}
use Rattle.xf_law_recalculation.proofs.AgreeLemmas.FormSettled.{applied-parts}
use Rattle.xf_law_recalculation.proofs.AgreeLemmas.InTurnLimits.{any-stands}
use Rattle.xf_law_recalculation.proofs.AgreeLemmas.TurnLists.{each-by_nodes, each-stands, only-one}
use Rattle.xf_binds.specs.declared.web.Asks.{Asks}
use Rattle.xf_binds_rebuild.specs.Found.{is_small}
use Rattle.xf_binds_rebuild.specs.Links.{Source, calculated_nodes, nodes_in, source_on, sources_in}
use Rattle.xf_binds_rebuild.specs.Order.{IsInOrder, IsLinked, nodes_of}
use Rattle.xf_binds_rebuild.specs.Web.{asks_of}
use Rattle.xf_binds_rebuild.proofs.Rebuilds.{entries-there}
use Rattle.xf_binds_rebuild.proofs.Told.{links_defined}
use Rattle.xf_binds_rebuild.proofs.Turns.{order-found}
use Rattle.xf_binds.specs.declared.turns.Turn.{Turn}
use Rattle.xf_recalc.specs.Settles.{MaySettle, scope_in}
use Rattle.xf_binds.specs.Placed.{AreInOrder, Placed, placed_of, placed_on}
use Rattle.xf_recalc.specs.Turns.{AreTurns, entry_in}
use Rattle.xf_recalc.proofs.PlacedLists.{IsFound, IsGot, found-on, of-places, single-at}

-- ---- numbers that differ

none-filtered : (p : Visit → Bool) (n : ℕ) (xs : List Visit) → has n (numbers_of xs) ≡ false → has n (numbers_of (filter p xs)) ≡ false
none-filtered p n [] h = refl
none-filtered p n (x ∷ xs) h = by (n == x.number) (p x) refl h (none-filtered p n xs)
  where
    by : (b c : Bool) → (n == x.number) ≡ b → (b || has n (numbers_of xs)) ≡ false → (has n (numbers_of xs) ≡ false → has n (numbers_of (filter p xs)) ≡ false) →
        has n (numbers_of (cond c (x ∷ filter p xs) (filter p xs))) ≡ false
    by true c e i later = no (sym i)
    by false true e i later = ap (λ b. b || has n (numbers_of (filter p xs))) e ∙ later i
    by false false e i later = later i

apart-filtered : (p : Visit → Bool) (xs : List Visit) → are_apart (numbers_of xs) ≡ true → are_apart (numbers_of (filter p xs)) ≡ true
apart-filtered p [] h = refl
apart-filtered p (x ∷ xs) h = by (p x) (apart-filtered p xs parts.1)
  where
    parts : (not (has x.number (numbers_of xs)) ≡ true) × (are_apart (numbers_of xs) ≡ true)
    parts = and-true (not (has x.number (numbers_of xs))) (are_apart (numbers_of xs)) h

    by : (b : Bool) → are_apart (numbers_of (filter p xs)) ≡ true → are_apart (numbers_of (cond b (x ∷ filter p xs) (filter p xs))) ≡ true
    by true i =
        ap (λ a. not a && are_apart (numbers_of (filter p xs))) (none-filtered p x.number xs (not-true (has x.number (numbers_of xs)) parts.0)) ∙ i
    by false i = i

apart-single : (es : List Entry) → are_apart (map (λ (e : Entry). e.node) es) ≡ true → AreSingle es
apart-single [] h = tt
apart-single (e ∷ es) h = (none es (not-true (has e.node (map (λ (f : Entry). f.node) es)) parts.0), apart-single es parts.1)
  where
    parts : (not (has e.node (map (λ (f : Entry). f.node) es)) ≡ true) × (are_apart (map (λ (f : Entry). f.node) es) ≡ true)
    parts = and-true (not (has e.node (map (λ (f : Entry). f.node) es))) (are_apart (map (λ (f : Entry). f.node) es)) h

    none : (fs : List Entry) → has e.node (map (λ (f : Entry). f.node) fs) ≡ false → list_any (λ (f : Entry). f.node == e.node) fs ≡ false
    none [] i = refl
    none (f ∷ fs) i = by (e.node == f.node) refl i (none fs)
      where
        by : (b : Bool) → (e.node == f.node) ≡ b → (b || has e.node (map (λ (g : Entry). g.node) fs)) ≡ false →
            (has e.node (map (λ (g : Entry). g.node) fs) ≡ false → list_any (λ (g : Entry). g.node == e.node) fs ≡ false) → ((f.node == e.node) || list_any (λ (g : Entry). g.node == e.node) fs) ≡ false
        by true j k later = no (sym k)
        by false j k later = ap (λ b. b || list_any (λ (g : Entry). g.node == e.node) fs) (turned f.node e.node ∙ j) ∙ later k

-- ---- nodes that are no texts

visited : (p : Visit → Bool) (n : ℕ) (xs : List Visit) → has n (numbers_of (filter p (map erased xs))) ≡ true → has n (numbers_of xs) ≡ true
visited p n [] h = h
visited p n (x ∷ xs) h = by (p (erased x)) h (visited p n xs)
  where
    by : (b : Bool) → has n (numbers_of (cond b (erased x ∷ filter p (map erased xs)) (filter p (map erased xs)))) ≡ true →
        (has n (numbers_of (filter p (map erased xs))) ≡ true → has n (numbers_of xs) ≡ true) → ((n == x.number) || has n (numbers_of xs)) ≡ true
    by true i later = of (n == x.number) i
      where
        of : (c : Bool) → (c || has n (numbers_of (filter p (map erased xs)))) ≡ true → (c || has n (numbers_of xs)) ≡ true
        of true j = refl
        of false j = later j
    by false i later = or-right (n == x.number) (has n (numbers_of xs)) (later i)

-- ---- of a model

map-twice : {X Y Z : Type 0} (g : Y → Z) (f : X → Y) (h : X → Z) → ((x : X) → g (f x) ≡ h x) → (xs : List X) → map g (map f xs) ≡ map h xs
map-twice g f h e [] = refl
map-twice g f h e (x ∷ xs) = ap (λ z. z ∷ map g (map f xs)) (e x) ∙ ap (λ l. h x ∷ l) (map-twice g f h e xs)

map-none : (xs : List ℕ) → map (λ (n : ℕ). n) xs ≡ xs
map-none [] = refl
map-none (x ∷ xs) = ap (λ l. x ∷ l) (map-none xs)

of-map : {X Y : Type 0} (P : Y → Type 0) (f : X → Y) (xs : List X) → AllOf P (map f xs) → AllOf (λ x. P (f x)) xs
of-map P f [] h = tt
of-map P f (x ∷ xs) h = (h.0, of-map P f xs h.1)

module _ (given : Given) (tables : Tables) (model : ℕ) (forest : Forest) (entries : List Entry) (may : MaySettle given tables model forest entries) where
  abbrev scope : Scope
  scope = scope_in given tables model

  abbrev shaped : List Visit
  shaped = shape_of forest.nodes

  -- the calculates in document order
  abbrev calcs : List Entry
  calcs = by_nodes shaped (calculates entries)

  abbrev kept : List Source
  kept = sources_in (visits forest.nodes) entries (map (asks_of scope shaped) entries)

  small : list_all is_small entries ≡ true
  small = each-small entries (each_then (λ (e : Entry). IsSolid (visits forest.nodes) e.node) (λ e. nat_lt e.node (2 ^ 128) ≡ true)
      (λ e s. may.around.below e.node (visited (λ x. not (is_text x.content)) e.node (visits forest.nodes) (present e.node (untexted (map erased (visits forest.nodes))) s.0 s.1)))
      entries (entries_solid bounds called given tables model forest entries may.covered may.around may.applies))
    where
      each-small : (es : List Entry) → AllOf (λ e. nat_lt e.node (2 ^ 128) ≡ true) es → list_all is_small es ≡ true
      each-small [] h = refl
      each-small (e ∷ es) h = ap (λ b. b && list_all is_small es) h.0 ∙ each-small es h.1

  linked : IsLinked scope forest.nodes entries kept
  linked = links_defined scope forest entries (record { trees = may.around.trees; below = may.around.below }) may.applies small

  single : AreSingle (calculates entries)
  single =
      let parts = applied-parts bounds called given tables model forest entries may.covered may.around may.applies in
      subst (λ es. AreSingle (calculates es)) parts.1 (form.single shaped [] (all_entries scope shaped) parts.0)

  single-calcs : AreSingle calcs
  single-calcs = apart-single calcs (ap are_apart (sym linked.nodes_in_order ∙ order) ∙ apart-filtered (λ x. has x.number (calculated_nodes entries)) (visits forest.nodes) (visits-different forest may.around.trees))
    where
      order : nodes_of kept ≡ in_order (visits forest.nodes) (calculated_nodes entries)
      order =
          map-twice (λ (s : Source). s.node) (source_on entries (map (asks_of scope shaped) entries)) (λ n. n) (λ n. refl) (in_order (visits forest.nodes) (calculated_nodes entries))
          ∙ map-none (in_order (visits forest.nodes) (calculated_nodes entries))

  found : AllOf (λ e. IsFound 0 entries e.node e) calcs
  found = each-by_nodes (λ e. IsFound 0 entries e.node e) shaped (calculates entries)
      (each_then (λ (e : Entry). (k : ℕ) × StandsAt (calculates entries) k e) (λ e. IsFound 0 entries e.node e)
      (λ e s. found-on 0 entries e.node e (only-one (calculates entries) single s.0 e s.1)
      (any-stands (λ (f : Entry). f.node == e.node) (calculates entries) s.0 e s.1 (self-same e.node)))
      (calculates entries) (each-stands (calculates entries)))

  pub are-turns : (web : List Asks) → web ≡ map (asks_of scope shaped) entries → (turns : List Turn) → AreInOrder entries web turns →
      AreTurns scope entries (visits forest.nodes) turns
  are-turns web asked turns given_order = record {
    ordered = record { places = o.0; order = order; at_places = at };
    single = single-at calcs single-calcs o.0 (map entry_in turns) order.once at;
    placed = of-map (λ (t : Placed). IsGot entries t) placed_of turns (subst (AllOf (λ (t : Placed). IsGot entries t)) (sym is) both.1);
  }
    where
      o : IsInOrder kept (Some given_order.nodes)
      o = subst (λ w. IsInOrder (sources_in (visits forest.nodes) entries w) (Some given_order.nodes)) asked
          (order-found forest (record { trees = may.around.trees; below = may.around.below }) entries (entries-there scope forest entries may.applies) small web given_order.nodes given_order.in_turn)

      order : IsOrder (graph_over scope shaped entries) o.0
      order = subst (λ g. IsOrder g o.0) linked.graph o.1

      is : map placed_of turns ≡ placed_on entries (nodes_in (map (λ (e : Entry). e.node) calcs) o.0)
      is = given_order.told.placed ∙ ap (placed_on entries) (o.2 ∙ ap (λ ns. nodes_in ns o.0) linked.nodes_in_order)

      size : length (graph_over scope shaped entries) ≡ length calcs
      size = size-of_graph shaped (calculated scope shaped entries) ∙ length-mapped (λ (e : Entry). record { node = e.node; reads = reads_of scope shaped e }) calcs

      within : (p : ℕ) → graph.has o.0 p ≡ true → p < length calcs
      within p h = subst (λ n. p < n) size (ltb-true p (length (graph_over scope shaped entries)) (sym (order.all p) ∙ h))

      both : AtPlaces calcs o.0 (map (λ (t : Placed). t.entry) (placed_on entries (nodes_in (map (λ (e : Entry). e.node) calcs) o.0))) × AllOf (λ (t : Placed). IsGot entries t) (placed_on entries (nodes_in (map (λ (e : Entry). e.node) calcs) o.0))
      both = of-places entries calcs found o.0 within

      at : AtPlaces calcs o.0 (map entry_in turns)
      at = subst (AtPlaces calcs o.0) (ap (map (λ (t : Placed). t.entry)) (sym is) ∙ map-twice (λ (t : Placed). t.entry) placed_of entry_in (λ t. refl) turns) both.0
