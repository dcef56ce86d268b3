-- What a rebuild gives, from what its parts give.
use Rattle.std.proofs.Common.{◌≡◌, ℕ, zero, suc, ◌+◌, ◌-◌, ◌^◌, ◌==◌, ◌<◌, ◌≤◌, inl, inr, min, nat_lt, Bool, true, false, cond, ◌&&◌, ◌||◌, List, [], ◌∷◌, map, length, Option, Some, None, option_map, Result, Ok, Err, refl, sym, ap, ◌∙◌, subst, arith}
use Rattle.std.specs.Prelude.{filter, slice_set}
use Rattle.std.specs.List.{list_all}
use Rattle.std.proofs.lemmas.Bool.{eqb-true}
use Rattle.std.proofs.lemmas.Bool.Decides.{nat_tests}
use Rattle.xf_def_forest.specs.Forest.{Forest}
use Rattle.xf_def_forest.specs.Order.{in_order}
use Rattle.xf_def_forest.specs.Visit.{Visit, visits, has}
use Rattle.xf_def_forest.specs.Shape.{shape_of}
use Rattle.xf_def_forest.proofs.BackLaws.{and-true}
use Rattle.xf_def_xpath.specs.Agree.{numbers_of}
use Rattle.xf_def_xpath.proofs.VisitFacts.{no, none-some, some-same, or-cases}
use Rattle.xf_def_model.specs.Rules.{Scope}
use Rattle.xf_def_model.specs.Applied.{Entry, Exception, twice, on_parent, applied, applied_over, is_calculate}
use Rattle.xf_def_model.specs.Circular.{Reader, calculated, dependents, nodes_at}
use Rattle.xf_def_model.specs.Pertinent.{AllOf}
use Rattle.xf_def_machine.specs.Cycles.{reported_cycle}
use Rattle.xf_eval_shape.specs.Sound.{Sound}
use Rattle.xf_binds.specs.declared.web.Asks.{Asks}
use Rattle.xf_binds.specs.Asked.{asked_of, asked_by_all, asking}
use Rattle.xf_binds.specs.Held.{Held, entries_in}
use Rattle.xf_binds.specs.Kept.{Kept}
use Rattle.xf_binds.specs.Table.{kept_at, with_kept}
use Rattle.xf_binds_apply.specs.declared.fault.BindFault.{BindFault}
use Rattle.xf_binds_apply.specs.declared.fault.BindFault.TheVariants as bind
use Rattle.xf_binds_apply.specs.Fault.{IsApplied}
use Rattle.xf_binds_rebuild.specs.Web.{asks_of, edge_limit, is_over}
use Rattle.xf_binds_rebuild.specs.Links.{calculated_nodes, ring_of, source_on, sources_in}
use Rattle.xf_binds_rebuild.specs.Found.{is_small, is_there}
use Rattle.xf_binds_rebuild.specs.Rebuilt.{Stop, edges, circular, table_with, unless_cycle, unless_over, no_cycle, by_applied, rebuilt, fault_of, IsStopped}
use Rattle.xf_binds_rebuild.proofs.MachineLaw.{fold-same}
use Rattle.xf_binds_rebuild.proofs.Entered.{applied-there, applied-apart}
use Rattle.xf_binds_rebuild.proofs.Ringed.{ring-alike}
use Rattle.xf_binds_rebuild.proofs.Shown.{IsShown, shown-order}

-- ---- of each entry

pub all-there : {X : Type 0} (test : X → Bool) (xs : List X) → AllOf (λ x. test x ≡ true) xs → list_all test xs ≡ true
all-there test [] h = refl
all-there test (x ∷ xs) h = ap (λ b. b && list_all test xs) h.0 ∙ all-there test xs h.1

pub entries-there : (scope : Scope) (forest : Forest) (entries : List Entry) → applied scope forest.nodes ≡ Ok entries → list_all (is_there forest.nodes) entries ≡ true
entries-there scope forest entries h = all-there (is_there forest.nodes) entries (applied-there scope (shape_of forest.nodes) entries h)

pub of-nodes : (p : ℕ → Bool) (es : List Entry) → list_all (λ e. p e.node) es ≡ true → (n : ℕ) → has n (calculated_nodes es) ≡ true → p n ≡ true
of-nodes p [] h n i = no i
of-nodes p (e ∷ es) h n i = by (is_calculate e) i (of-nodes p es parts.1 n)
  where
    parts : (p e.node ≡ true) × (list_all (λ x. p x.node) es ≡ true)
    parts = and-true (p e.node) (list_all (λ x. p x.node) es) h

    by : (b : Bool) → has n (map (λ (x : Entry). x.node) (cond b (e ∷ filter is_calculate es) (filter is_calculate es))) ≡ true → (has n (calculated_nodes es) ≡ true → p n ≡ true) → p n ≡ true
    by true j rest = elim (or-cases (n == e.node) (has n (calculated_nodes es)) j) [ inl same ↦ ap p (eqb-true n e.node same) ∙ parts.0 | inr there ↦ rest there ]
    by false j rest = rest j

pub entries-shown : (forest : Forest) (sound : Sound forest) (scope : Scope) (entries : List Entry) → applied scope forest.nodes ≡ Ok entries → list_all is_small entries ≡ true
    → (n : ℕ) → has n (calculated_nodes entries) ≡ true → IsShown forest sound n
entries-shown forest sound scope entries applies small n h = (
  of-nodes (λ m. has m (numbers_of (shape_of forest.nodes))) entries (entries-there scope forest entries applies) n h,
  of-nodes (λ m. nat_lt m (2 ^ 128)) entries small n h,
)

-- ---- the limit

set-same : (f : Kept → ℕ) (ks : List Kept) (model : ℕ) (one other : Kept) → f one ≡ f other → map f (slice_set ks model one) ≡ map f (slice_set ks model other)
set-same f [] model one other e = refl
set-same f (k ∷ ks) zero one other e = ap (λ n. n ∷ map f ks) e
set-same f (k ∷ ks) (suc model) one other e = ap (λ l. f k ∷ l) (set-same f ks model one other e)

pub asked-same : (table : List Kept) (model : ℕ) (entries : List Entry) (web : List Asks) → asked_by_all (asking table model web) ≡ asked_by_all (table_with table model entries web)
asked-same table model entries web =
    fold-same (λ (k : Kept). asked_of k.asks) (λ (k : Kept). asked_of k.asks) 0 (asking table model web) (table_with table model entries web)
    (set-same (λ (k : Kept). asked_of k.asks) table model (record (kept_at table model) { asks = web }) (record (kept_at table model) { entries = entries; asks = web }) refl)

pub over-told : (table : List Kept) (model : ℕ) (entries : List Entry) (web : List Asks) (asked : ℕ) → asked ≡ min (asked_by_all (asking table model web)) (2 ^ 64 - 1) → 8388608 < asked
    → is_over (table_with table model entries web) ≡ true
over-told table model entries web asked e h = ap (nat_lt edge_limit) (sym (asked-same table model entries web)) ∙ over (asked_by_all (asking table model web)) e
  where
    over : (sum : ℕ) → asked ≡ min sum (2 ^ 64 - 1) → nat_lt edge_limit sum ≡ true
    over sum i = (let n : 8388608 < sum = omega (arith, i, h) in grind (arith, nat_tests, n))

pub within-told : (table : List Kept) (model : ℕ) (entries : List Entry) (web : List Asks) (asked : ℕ) → asked ≡ min (asked_by_all (asking table model web)) (2 ^ 64 - 1) → asked ≤ 8388608
    → is_over (table_with table model entries web) ≡ false
within-told table model entries web asked e h = ap (nat_lt edge_limit) (sym (asked-same table model entries web)) ∙ within (asked_by_all (asking table model web)) e
  where
    within : (sum : ℕ) → asked ≡ min sum (2 ^ 64 - 1) → nat_lt edge_limit sum ≡ false
    within sum i = (let n : sum ≤ 8388608 = omega (arith, i, h) in grind (arith, nat_tests, n))

-- ---- the answers

pub stopped-told : (scope : Scope) (all : List Visit) (table : List Kept) (fault : BindFault) (given : Result (List Entry) Exception) → IsApplied (Err fault) given → IsStopped (fault_of fault) (by_applied scope all table given)
stopped-told scope all table (bind.Twice node) given h = ap (by_applied scope all table) h
stopped-told scope all table (bind.OnParent node) given h = ap (by_applied scope all table) h
stopped-told scope all table bind.Memory given h = tt

module _ (forest : Forest) (sound : Sound forest) (scope : Scope) (table : List Kept) (entries : List Entry) (applies : applied scope forest.nodes ≡ Ok entries) (small : list_all is_small entries ≡ true)
    (web : List Asks) (asked : web ≡ map (asks_of scope (shape_of forest.nodes)) entries) where
  abbrev all : List Visit
  all = shape_of forest.nodes

  abbrev readers : List Reader
  readers = calculated scope (shape_of forest.nodes) entries

  ring-told : ring_of (sources_in (visits forest.nodes) entries web) ≡ option_map (nodes_at readers) (reported_cycle (dependents all readers))
  ring-told =
      ap (λ ns. ring_of (map (source_on entries web) ns)) (sym (shown-order forest sound (calculated_nodes entries) (entries-shown forest sound scope entries applies small)))
      ∙ ap (λ w. ring_of (map (source_on entries w) (in_order all (calculated_nodes entries)))) asked
      ∙ ring-alike scope all entries (applied-apart scope all entries applies)

  abbrev after : List Kept
  after = table_with table scope.model entries web

  whole : rebuilt scope forest.nodes table ≡ unless_over (is_over after) (no_cycle all readers after)
  whole = ap (by_applied scope all table) applies ∙ ap (λ w. unless_over (is_over (table_with table scope.model entries w)) (no_cycle all readers (table_with table scope.model entries w))) (sym asked)

  pub over-rebuilt : is_over after ≡ true → rebuilt scope forest.nodes table ≡ Err edges
  over-rebuilt h = whole ∙ ap (λ b. unless_over b (no_cycle all readers after)) h

  some-cycle : (nodes : List ℕ) (o : Option (List ℕ)) → Some nodes ≡ option_map (nodes_at readers) o → unless_cycle readers o after ≡ Err (circular nodes)
  some-cycle nodes None e = none-some (sym e)
  some-cycle nodes (Some places) e = ap (λ ns. Err (circular ns)) (sym (some-same e))

  none-cycle : (o : Option (List ℕ)) → None ≡ option_map (nodes_at readers) o → unless_cycle readers o after ≡ Ok after
  none-cycle None e = refl
  none-cycle (Some places) e = none-some e

  pub ring-rebuilt : (nodes : List ℕ) → is_over after ≡ false → Some nodes ≡ ring_of (sources_in (visits forest.nodes) entries web) → rebuilt scope forest.nodes table ≡ Err (circular nodes)
  ring-rebuilt nodes h ring =
      whole ∙ ap (λ b. unless_over b (no_cycle all readers after)) h ∙ some-cycle nodes (reported_cycle (dependents all readers)) (ring ∙ ring-told)

  pub all-rebuilt : is_over after ≡ false → None ≡ ring_of (sources_in (visits forest.nodes) entries web) → rebuilt scope forest.nodes table ≡ Ok after
  all-rebuilt h ring = whole ∙ ap (λ b. unless_over b (no_cycle all readers after)) h ∙ none-cycle (reported_cycle (dependents all readers)) (ring ∙ ring-told)

-- ---- the check

module _ (forest : Forest) (sound : Sound forest) (model : ℕ) (table : List Kept) (entries : List Entry) (web : List Asks) where
  pub over-checked : (asked : ℕ) → asked ≡ min (asked_by_all (asking table model web)) (2 ^ 64 - 1) → 8388608 < asked
      → (scope : Scope) → scope.model ≡ model → applied scope forest.nodes ≡ Ok entries → web ≡ map (asks_of scope (shape_of forest.nodes)) entries → list_all is_small entries ≡ true
      → rebuilt scope forest.nodes table ≡ Err edges
  over-checked asked e h scope same applies told small =
      over-rebuilt forest sound scope table entries applies small web told (ap (λ m. is_over (table_with table m entries web)) same ∙ over-told table model entries web asked e h)

  pub ring-checked : (asked : ℕ) (nodes : List ℕ) → asked ≡ min (asked_by_all (asking table model web)) (2 ^ 64 - 1) → asked ≤ 8388608 → Some nodes ≡ ring_of (sources_in (visits forest.nodes) entries web)
      → (scope : Scope) → scope.model ≡ model → applied scope forest.nodes ≡ Ok entries → web ≡ map (asks_of scope (shape_of forest.nodes)) entries → list_all is_small entries ≡ true
      → rebuilt scope forest.nodes table ≡ Err (circular nodes)
  ring-checked asked nodes e h ring scope same applies told small =
      ring-rebuilt forest sound scope table entries applies small web told nodes (ap (λ m. is_over (table_with table m entries web)) same ∙ within-told table model entries web asked e h) ring

  pub all-checked : (asked : ℕ) → asked ≡ min (asked_by_all (asking table model web)) (2 ^ 64 - 1) → asked ≤ 8388608 → None ≡ ring_of (sources_in (visits forest.nodes) entries web)
      → (scope : Scope) → scope.model ≡ model → applied scope forest.nodes ≡ Ok entries → web ≡ map (asks_of scope (shape_of forest.nodes)) entries → list_all is_small entries ≡ true
      → rebuilt scope forest.nodes table ≡ Ok (table_with table model entries web)
  all-checked asked e h ring scope same applies told small =
      all-rebuilt forest sound scope table entries applies small web told (ap (λ m. is_over (table_with table m entries web)) same ∙ within-told table model entries web asked e h) ring
      ∙ ap (λ m. Ok (table_with table m entries web)) same
