-- A bind sets what it set over the data of before: over these with other numbers it sets the same with other numbers.
use Rattle.std.proofs.Common.{◌≡◌, ℕ, ◌==◌, ◌^◌, Bool, true, false, not, ◌&&◌, List, [], ◌∷◌, map, nat_lt, Option, Some, None, option_map, unwrap_or, refl, sym, ap, ◌∙◌, subst}
use Rattle.std.specs.List.{list_any, flat_map, position_or_len}
use Rattle.std.proofs.lemmas.List.{map-append, length-map}
use Rattle.xf_def_syntax.specs.declared.expr.Expr.{Expr}
use Rattle.xf_def_forest.specs.Forest.{Forest, is_text}
use Rattle.xf_def_forest.specs.Visit.{Visit, visits, has}
use Rattle.xf_def_forest.specs.Shape.{text_number, erased, shape}
use Rattle.xf_def_forest.specs.Changes.{in_instances}
use Rattle.xf_def_forest.specs.Same.{IsRenumbering, renumbered_visit}
use Rattle.xf_def_forest.proofs.RenumberLaws.{map-map, flat-through, has-renumbered}
use Rattle.xf_def_xpath.specs.Given.{Document}
use Rattle.xf_def_xpath.specs.Setting.{in_order, joined}
use Rattle.xf_def_xpath.specs.Reads.{trace}
use Rattle.xf_def_xpath.specs.Same.{renumbered_document, renumbered_property}
use Rattle.xf_def_xpath.specs.Agree.{numbers_of}
use Rattle.xf_def_xpath.proofs.VisitFacts.{self-same, or-left, or-right, present, found-out}
use Rattle.xf_def_xpath.proofs.ForestVisits.{Each, each-map}
use Rattle.xf_def_xpath.proofs.RenumberLaws.{in_order-renumbered, joined-renumbered}
use Rattle.xf_def_model.specs.declared.property.Property.{Property}
use Rattle.xf_def_model.specs.Rules.{Rule, Scope, chains, chain_around}
use Rattle.xf_def_model.specs.Nested.{sets_of}
use Rattle.xf_def_model.specs.Applied.{properties_of, standing_in, entry_of, entries_at, entries_on, entries_by}
use Rattle.xf_def_model.specs.Pertinent.{AllOf}
use Rattle.xf_def_model.specs.Same.{renumbered_entry, renumbered_scope}
use Rattle.xf_def_model.proofs.EachLemmas.{each_then}
use Rattle.xf_def_model.proofs.RenumberBinds.{TraceGoes, trace-goes, flat-goes, sets-renumbered}
use Rattle.xf_law_recalculation.specs.Agree.Settles.{IsSolid}
use Rattle.xf_law_recalculation.specs.Marks.Binds.{bind_looks, GivesTruths, HasInstances}
use Rattle.xf_law_recalculation.specs.Marks.Instances.{standing}
use Rattle.xf_law_recalculation.proofs.MarksLemmas.Behind.{erased-apart, each-both, each-has}
use Rattle.xf_law_recalculation.proofs.MarksLemmas.Standing.{within}
use Rattle.xf_law_recalculation.proofs.MarksLemmas.TextLists.{not-of, text-kept, original}
use Rattle.xf_law_recalculation.specs.Change.Carried.{Carried}
use Rattle.xf_law_recalculation.proofs.ChangeLemmas.Carry.{standing-apart}
use Rattle.xf_law_recalculation.specs.Bind.WithTexts.{IsCovered}
use Rattle.xf_law_recalculation.specs.Bind.Since.{first_marked, is_loose, KeepsDocuments, HoldsNumbers, KeptNumbers, KeptAround, AnyBindHeld}
use Rattle.xf_law_recalculation.proofs.BindLemmas.LooseInstances.{any_bind_of_instances}
use Rattle.xf_law_recalculation.proofs.BindLemmas.ShapeHeld.{spread, at-node, spread-renumbers, spread-texts, shape-through}
use Rattle.xf_law_recalculation.proofs.BindLemmas.SinceNodes.{entries-since}
use Rattle.xf_law_recalculation.proofs.BindLemmas.SetAside as aside

-- ---- what one bind sets

module _ (h : ℕ → ℕ) (same : IsRenumbering h) where
  place-through : (n : ℕ) (ns : List ℕ) → position_or_len (λ m. m == h n) (map h ns) ≡ position_or_len (λ m. m == n) ns
  place-through n [] = refl
  place-through n (m ∷ ms) = rw (same m n, place-through n ms) refl

  standing-through : (n : ℕ) (set : List ℕ) → standing_in (h n) (map h set) ≡ standing_in n set
  standing-through n set = rw (has-renumbered h same n set, place-through n set, length-map set h) refl

  at-through : (bind : ℕ) (sets : List (List ℕ)) (n : ℕ) (p : Property) → entries_at bind (map (map h) sets) (h n) p ≡ map (renumbered_entry h) (entries_at bind sets n p)
  at-through bind sets n p =
      ap (map (entry_of bind p (h n))) (flat-through (map h) (standing_in (h n)) (standing_in n) (standing-through n) sets)
      ∙ sym (map-map (renumbered_entry h) (entry_of bind p n) (flat_map (standing_in n) sets))

  each-property : (bind : ℕ) (sets : List (List ℕ)) (n : ℕ) (ps : List Property) → flat_map (entries_at bind (map (map h) sets) (h n)) ps ≡ map (renumbered_entry h) (flat_map (entries_at bind sets n) ps)
  each-property bind sets n [] = refl
  each-property bind sets n (p ∷ ps) =
      rw (at-through bind sets n p, each-property bind sets n ps) (sym (map-append (renumbered_entry h) (entries_at bind sets n p) (flat_map (entries_at bind sets n) ps)))

  on-through : (bind : ℕ) (sets : List (List ℕ)) (ps : List Property) (ns : List ℕ) → entries_on bind (map (map h) sets) ps (map h ns) ≡ map (renumbered_entry h) (entries_on bind sets ps ns)
  on-through bind sets ps ns =
      flat-goes h (renumbered_entry h) (λ n. flat_map (entries_at bind sets n) ps) (λ n. flat_map (entries_at bind (map (map h) sets) n) ps) (λ n. each-property bind sets n ps) ns

  sets-or_none : (m : Option (List (List ℕ))) → unwrap_or (option_map (map (map h)) m) [] ≡ map (map h) (unwrap_or m [])
  sets-or_none None = refl
  sets-or_none (Some sets) = refl

  entries-through : (scope : Scope) (all : List Visit) (bind : ℕ) (r : Rule) → AllOf (TraceGoes h) (chain_around (chains scope) r.around) → TraceGoes h r.node_set →
      entries_by (renumbered_scope h scope) (map (renumbered_visit h) all) bind r ≡ map (renumbered_entry h) (entries_by scope all bind r)
  entries-through scope all bind r around own =
      let sets = unwrap_or (sets_of None scope all r) [] in
      ap (λ (found : List (List ℕ)). entries_on bind found (properties_of r) (in_order (map (renumbered_visit h) all) (joined found)))
      (ap (λ m. unwrap_or m []) (sets-renumbered h same None scope all r around own) ∙ sets-or_none (sets_of None scope all r))
      ∙ ap (entries_on bind (map (map h) sets) (properties_of r)) (ap (in_order (map (renumbered_visit h) all)) (joined-renumbered h sets) ∙ in_order-renumbered h same all (joined sets))
      ∙ on-through bind sets (properties_of r) (in_order all (joined sets))

  all-go : (es : List Expr) → AllOf (TraceGoes h) (map trace es)
  all-go [] = tt
  all-go (e ∷ es) = (trace-goes h same e, all-go es)

map-each : (a b : Visit → Visit) (xs : List Visit) → Each (λ y. a y ≡ b y) xs → map a xs ≡ map b xs
map-each a b [] e = refl
map-each a b (x ∷ xs) e = ap (λ y. y ∷ map a xs) e.0 ∙ ap (λ l. b x ∷ l) (map-each a b xs e.1)

module _ (f : ℕ → ℕ) (taken : ℕ → Bool) (texts lists : List ℕ) (scope : Scope) (documents : List Document) (now before : Forest)
    (instances : HasInstances scope now) (instances_before : HasInstances scope before) (carried : Carried f taken texts lists scope documents now before) (docs : KeepsDocuments lists scope now)
    (around_then : KeptAround f scope before) where
  abbrev P0 : List Visit
  P0 = standing before

  abbrev g : ℕ → ℕ
  g = aside.loosened f taken texts lists scope documents now before instances.trees carried

  pub renumbers : IsRenumbering g
  renumbers = aside.renumbers f taken texts lists scope documents now before instances.trees carried

  pub small : (k : ℕ) → has k (numbers_of P0) ≡ true → nat_lt (g k) (2 ^ 128) ≡ true
  small = aside.small f taken texts lists scope documents now before instances.trees carried

  abbrev pub h : ℕ → ℕ
  h = spread (numbers_of P0) g renumbers carried.few_before small

  same : IsRenumbering h
  same = spread-renumbers (numbers_of P0) g renumbers carried.few_before small

  at : (k : ℕ) → has k (numbers_of P0) ≡ true → h k ≡ g k
  at = at-node (numbers_of P0) g renumbers carried.few_before small

  holds : HoldsNumbers f texts before h
  holds = record { renumbers = same; held = λ k i l. at k i ∙ aside.held f taken texts lists scope documents now before instances.trees carried k i l }

  pub as-carried : (n : ℕ) → IsSolid P0 n → h n ≡ f n
  as-carried n s =
      let out = found-out (λ y. not (is_text y.content)) n (map erased P0) s.0 (erased-apart P0 (standing-apart before carried.same.trees)) s.1 in
      let w = original n P0 s.0 out.0 in
      holds.held n (present n P0 w.0 w.1)
      (ap (is_loose f texts) w.1 ∙ ap (λ b. b && first_marked texts (map f w.0.above)) (sym (text-kept w.0.content) ∙ ap (λ (v : Visit). is_text v.content) w.2 ∙ not-of (is_text s.0.content) out.1))

  -- ---- the visits

  same-list : (ns : List ℕ) → ((k : ℕ) → has k ns ≡ true → has k (numbers_of P0) ≡ true) → map g ns ≡ map h ns
  same-list [] i = refl
  same-list (n ∷ ns) i = ap (λ m. m ∷ map g ns) (sym (at n (i n (or-left (n == n) (has n ns) (self-same n))))) ∙ ap (λ l. h n ∷ l) (same-list ns (λ k j. i k (or-right (k == n) (has k ns) j)))

  same-visits : map (renumbered_visit g) P0 ≡ map (renumbered_visit h) P0
  same-visits = map-each (renumbered_visit g) (renumbered_visit h) P0
      (each-both (λ y. has y.number (numbers_of P0) ≡ true) (λ y. (p : ℕ) → has p y.above ≡ true → has p (numbers_of P0) ≡ true) (λ y. renumbered_visit g y ≡ renumbered_visit h y) P0
      (λ y i j. ap (λ m. record { number = m; above = map g y.above; content = y.content }) (sym (at y.number i)) ∙ ap (λ l. record { number = h y.number; above = l; content = y.content }) (same-list y.above j))
      (each-has P0) (within (in_instances before.nodes)))

  same-shape : shape (map (renumbered_visit h) P0) ≡ map (renumbered_visit h) (shape P0)
  same-shape = shape-through h same P0
      (each-map (λ y. has y.number (numbers_of P0) ≡ true) (λ y. h (text_number y.number) ≡ text_number (h y.number)) P0 (λ y i. spread-texts (numbers_of P0) g renumbers carried.few_before small y.number i) (each-has P0))

  -- ---- what surrounds the binds

  same-documents : (ds : List Document) → AllOf (λ d. IsSolid P0 d.element × (f d.element ≡ d.element)) ds → map (renumbered_document h) ds ≡ ds
  same-documents [] i = refl
  same-documents (d ∷ ds) i = ap (λ n. record d { element = n } ∷ map (renumbered_document h) ds) (as-carried d.element i.0.0 ∙ i.0.1) ∙ ap (λ l. d ∷ l) (same-documents ds i.1)

  same-scope : renumbered_scope h scope ≡ scope
  same-scope =
      ap (λ ds. record scope { given = record scope.given { documents = ds; event = option_map (map (renumbered_property h)) scope.given.event } }) (same-documents scope.given.documents around_then.documents)
      ∙ ap (λ e. record scope { given = record scope.given { event = e } }) (ap (option_map (map (renumbered_property h))) around_then.quiet ∙ sym around_then.quiet)

  pub entries-held : (bind : ℕ) (r : Rule) (around : List Expr) (own : Expr) → GivesTruths scope →
      chain_around (chains scope) r.around ≡ map trace around → r.node_set ≡ trace own → AllOf IsCovered around → IsCovered own →
      list_any (λ n. has n lists) (bind_looks scope (shape (visits (in_instances now.nodes))) r) ≡ false →
      entries_by scope (shape (visits now.nodes)) bind r ≡ map (renumbered_entry h) (entries_by scope (shape (visits before.nodes)) bind r)
  entries-held bind r around own truths chain set covered_around covered unmarked =
      entries-since f taken texts lists scope documents now before instances carried docs bind r around own truths chain set covered_around covered unmarked
      ∙ ap (λ xs. entries_by scope (shape xs) bind r) same-visits
      ∙ ap (λ xs. entries_by scope xs bind r) same-shape
      ∙ ap (λ s. entries_by s (map (renumbered_visit h) (shape P0)) bind r) (sym same-scope)
      ∙ entries-through h same scope (shape P0) bind r (subst (AllOf (TraceGoes h)) (sym chain) (all-go h same around)) (subst (TraceGoes h) (sym set) (trace-goes h same own))
      ∙ ap (map (renumbered_entry h)) (sym (any_bind_of_instances scope before bind r around own instances_before truths chain set covered_around covered))

kept-around : (f : ℕ → ℕ) (scope : Scope) (before : Forest) → KeptNumbers f scope before → KeptAround f scope before
kept-around f scope before numbers = record {
  documents = each_then (λ (d : Document). IsSolid (standing before) d.element) _ (λ d s. (s, numbers.solid d.element s)) scope.given.documents numbers.documents;
  quiet = numbers.quiet;
}

pub any_bind_held : AnyBindHeld
any_bind_held f taken texts lists scope documents now before bind r around own instances instances_before carried docs numbers truths chain set covered_around covered unmarked =
    let kept = kept-around f scope before numbers in (
      h f taken texts lists scope documents now before instances instances_before carried docs kept,
      holds f taken texts lists scope documents now before instances instances_before carried docs kept,
      λ n s. as-carried f taken texts lists scope documents now before instances instances_before carried docs kept n s ∙ numbers.solid n s,
      entries-held f taken texts lists scope documents now before instances instances_before carried docs kept bind r around own truths chain set covered_around covered unmarked,
    )
