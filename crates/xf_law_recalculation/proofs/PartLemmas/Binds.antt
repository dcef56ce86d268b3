-- What the binds of a model apply over the part, with the document elements of the model alone, they apply over the whole list.
use Rattle.std.proofs.Common.{◌≡◌, ℕ, zero, suc, ◌==◌, Bool, true, false, not, ◌&&◌, List, [], ◌∷◌, ◌++◌, map, Option, Some, None, option_map, unwrap_or, refl, sym, ap, ◌∙◌}
use Rattle.std.specs.Prelude.{option_and_then, get_or, slice_get, if◌then◌else◌}
use Rattle.std.specs.List.{list_any, flat_map}
use Rattle.xf_def_syntax.specs.declared.expr.Expr.{Expr}
use Rattle.xf_def_syntax.specs.declared.form.Bind.{Bind}
use Rattle.xf_def_syntax.specs.declared.form.Tables.{Tables}
use Rattle.xf_def_forest.specs.declared.content.Content.{Content}
use Rattle.xf_def_forest.specs.declared.content.Content.TheVariants as content
use Rattle.xf_def_forest.specs.Forest.{is_attribute}
use Rattle.xf_def_forest.specs.Visit.{Visit, has, is_first, first_of}
use Rattle.xf_def_forest.specs.StringValue.{string_value}
use Rattle.xf_def_forest.specs.Shape.{erased}
use Rattle.xf_def_forest.proofs.BackLaws.{and-true}
use Rattle.xf_def_values.specs.Functions.{Functions}
use Rattle.xf_def_xpath.specs.Given.{Document, Given, first_document, document_of}
use Rattle.xf_def_xpath.specs.Setting.{each, in_order, joined}
use Rattle.xf_def_xpath.specs.Conversions.{nodes_of}
use Rattle.xf_def_xpath.specs.Binding.{as_list, stand_in, stand_ins, bound_nodes}
use Rattle.xf_def_xpath.specs.Asked.{Trace, found}
use Rattle.xf_def_xpath.proofs.VisitFacts.{no, self-same, or-left, found-number}
use Rattle.xf_def_xpath.proofs.ForestVisits.{Each, each-map, each-found}
use Rattle.xf_def_model.specs.declared.property.Property.{Property}
use Rattle.xf_def_model.specs.declared.property.Property.TheVariants.{Kind, Calculate, Relevant, Readonly, Required, Constraint}
use Rattle.xf_def_model.specs.Rules.{Computed, Rule, Scope, computed_of, rule_of, scope_of, chains, chains_after, chain_around}
use Rattle.xf_def_model.specs.Nested.{alone, setting_for, set_from, reached_through, begun, sets_of}
use Rattle.xf_def_model.specs.Applied.{Entry, twice, on_parent, sets_same, is_calculate, standing_in, entry_of, entries_at, entries_on, entries_by, properties_of, entries_from, all_entries, or_later, exception_at, exception_from, unless, applied_over}
use Rattle.xf_def_model.specs.Entries.{expression_in, expression_of}
use Rattle.xf_law_recalculation.specs.Within.Within.{Whole, kept, over_part}
use Rattle.xf_law_recalculation.proofs.WithinLemmas.Within.{In, in-append, in-flat, flat-same, ordered-same, ordered-in, found-kept, filter-kept, in-filter}
use Rattle.xf_law_recalculation.proofs.WithinLemmas.Seen.{Sees, Inside}
use Rattle.xf_law_recalculation.proofs.WithinLemmas.Told.{Told, Agree, agree-then, agree-map, agree-each}
use Rattle.xf_law_recalculation.proofs.WithinLemmas.Asks.{TraceKeeps, trace-keeps}
use Rattle.xf_law_recalculation.proofs.HeldLemmas.Shapes.{map-kept, map-each, elements-kept, string-kept}

-- ---- what a form asks

pub each-flat : {X Y : Type 0} (Q : Y → Type 0) (f : X → List Y) (xs : List X) → Each (λ x. Each Q (f x)) xs → Each Q (flat_map f xs)
each-flat Q f [] e = tt
each-flat Q f (x ∷ xs) e = append (f x) (flat_map f xs) e.0 (each-flat Q f xs e.1)
  where
    append : (ys zs : List _) → Each Q ys → Each Q zs → Each Q (ys ++ zs)
    append [] zs d g = g
    append (y ∷ ys) zs d g = (d.0, append ys zs d.1 g)

pub each-append : {X : Type 0} (Q : X → Type 0) (xs ys : List X) → Each Q xs → Each Q ys → Each Q (xs ++ ys)
each-append Q [] ys d e = e
each-append Q (x ∷ xs) ys d e = (d.0, each-append Q xs ys d.1 e)

module _ (p : ℕ → Bool) where
  abbrev Known : List Trace → Type 0
  Known ts = Each (TraceKeeps p) ts

  got : (known : List (List Trace)) (k : ℕ) → Each Known known → Known (get_or known k [])
  got [] k e = tt
  got (ts ∷ known) zero e = e.0
  got (ts ∷ known) (suc k) e = got known k e.1

  around-known : (known : List (List Trace)) (around : Option ℕ) → Each Known known → Known (chain_around known around)
  around-known known None e = tt
  around-known known (Some k) e = got known k e

  chains-known : (known : List (List Trace)) (binds : List Bind) → Each Known known → Each Known (chains_after known (map rule_of binds))
  chains-known known [] e = e
  chains-known known (bind ∷ binds) e =
      let one : Known (chain_around known bind.around ++ (rule_of bind).node_set ∷ []) =
      each-append (TraceKeeps p) (chain_around known bind.around) ((rule_of bind).node_set ∷ []) (around-known known bind.around e) (trace-keeps p bind.node_set, tt) in
      chains-known (known ++ (chain_around known bind.around ++ (rule_of bind).node_set ∷ []) ∷ []) binds
      (each-append Known known ((chain_around known bind.around ++ (rule_of bind).node_set ∷ []) ∷ []) e (one, tt))

  -- the computed expressions of a bind
  abbrev pub ComputedKeeps : Computed → Type 0
  ComputedKeeps x = TraceKeeps p x.trace

  computed-known : (o : Option Expr) → Told ComputedKeeps (option_map computed_of o)
  computed-known None = tt
  computed-known (Some expr) = trace-keeps p expr

  in-bind : (bind : Bind) (property : Property) → Told ComputedKeeps (expression_in (rule_of bind) property)
  in-bind bind Kind = tt
  in-bind bind Calculate = computed-known bind.properties.calculate
  in-bind bind Relevant = computed-known bind.properties.relevant
  in-bind bind Readonly = computed-known bind.properties.readonly
  in-bind bind Required = computed-known bind.properties.required
  in-bind bind Constraint = computed-known bind.properties.constraint

  in-binds : (binds : List Bind) (k : ℕ) (property : Property) → Told ComputedKeeps (option_and_then (λ r. expression_in r property) (slice_get (map rule_of binds) k))
  in-binds [] k property = tt
  in-binds (bind ∷ binds) zero property = in-bind bind property
  in-binds (bind ∷ binds) (suc k) property = in-binds binds k property

  pub expression-known : (functions : Functions) (given : Given) (tables : Tables) (model : ℕ) (e : Entry) → Told ComputedKeeps (expression_of (scope_of functions given tables model) e)
  expression-known functions given tables model e = in-binds tables.binds e.bind e.property

-- ---- over the part

-- what surrounds the expressions of a model over the part
abbrev pub scope_with : List Document → Scope → Scope
scope_with documents scope = record scope { given = record scope.given { documents = documents } }

-- the model's document elements are the same, and in the part
pub record HasPlaces (p : ℕ → Bool) (scope : Scope) (documents : List Document) : Type 0 where
  pub same : (id : List ℕ) → document_of scope.model id documents ≡ document_of scope.model id scope.given.documents
  pub inside : (id : List ℕ) (n : ℕ) → document_of scope.model id scope.given.documents ≡ Some n → p n ≡ true
  pub quiet : scope.given.event ≡ None

module _ (p : ℕ → Bool) (scope : Scope) (documents : List Document) (h : HasPlaces p scope documents) (all : List Visit) (whole : Each (Whole p) all) where
  abbrev S : Scope
  S = scope_with documents scope

  pub setting-small : (most : Option ℕ) (n : ℕ) → setting_for most S (kept p all) n ≡ over_part p (setting_for most scope all n) (λ m. string_value m (kept p all)) documents
  setting-small most n = ap (λ l. record (over_part p (setting_for most scope all n) (λ m. string_value m (kept p all)) documents) { all = l }) (map-kept p erased (λ y. refl) all)

  pub setting-sees : (most : Option ℕ) (n : ℕ) → p n ≡ true → Sees p (setting_for most scope all n) (λ m. string_value m (kept p all)) documents
  setting-sees most n i = record {
    trees = map-each p erased (Whole p) (Whole p) (λ y w. w) all whole;
    strings_too = λ m j. string-kept p all whole m j;
    documents_too = h.same;
    inside = h.inside;
    current = i;
    quiet = h.quiet;
  }

  -- ---- what nodes stand for

  first-has : (n : ℕ) (ns : List ℕ) → is_first n ns ≡ true → has n ns ≡ true
  first-has n [] i = no i
  first-has n (m ∷ ms) i = or-left (n == m) (has n ms) i

  children-each : (n : ℕ) → p n ≡ true → Each (λ y. (is_first n y.above && not (is_attribute y.content)) ≡ true → p y.number ≡ true) all
  children-each n i = each-map (Whole p) (λ y. (is_first n y.above && not (is_attribute y.content)) ≡ true → p y.number ≡ true) all (λ y w j. sym (w n (first-has n y.above (and-true _ _ j).0)) ∙ i) whole

  stands : (x : Visit) → Whole p x → p x.number ≡ true → (c : Content) → (stand_in (kept p all) x c ≡ stand_in all x c) × In p (stand_in all x c)
  stands x w i content.Root = (ap (map (λ (y : Visit). y.number)) (filter-kept p (λ y. is_first x.number y.above && not (is_attribute y.content)) all (children-each x.number i)), in-filter p (λ y. is_first x.number y.above && not (is_attribute y.content)) all (children-each x.number i))
  stands x w i (content.Element name) = (refl, (i, tt))
  stands x w i (content.Attribute name text) = (refl, (i, tt))
  stands x w i (content.Text text) = (refl, of x.above w)
    where
      of : (ns : List ℕ) → ((n : ℕ) → has n ns ≡ true → p n ≡ p x.number) → In p (as_list (first_of ns))
      of [] j = tt
      of (n ∷ ns) j = (j n (or-left (n == n) (has n ns) (self-same n)) ∙ i, tt)

  stands-at : (n : ℕ) → p n ≡ true → (stand_ins (kept p all) (found n (kept p all)) ≡ stand_ins all (found n all)) × In p (stand_ins all (found n all))
  stands-at n i = (ap (stand_ins (kept p all)) (found-kept p n all i) ∙ (by (found n all) refl).0, (by (found n all) refl).1)
    where
      by : (m : Option Visit) → found n all ≡ m → (stand_ins (kept p all) m ≡ stand_ins all m) × In p (stand_ins all m)
      by None e = (refl, tt)
      by (Some x) e = stands x (each-found (Whole p) n all x whole e) (ap p (found-number n all x e) ∙ i) x.content

  bound : (ns : List ℕ) → In p ns → (bound_nodes (kept p all) ns ≡ bound_nodes all ns) × In p (bound_nodes all ns)
  bound ns i =
      let inside = in-flat p (λ n. stand_ins all (found n all)) ns i (λ n j. (stands-at n j).1) in (
        ap (in_order (kept p all)) (flat-same p (λ n. stand_ins (kept p all) (found n (kept p all))) (λ n. stand_ins all (found n all)) ns i (λ n j. (stands-at n j).0)) ∙ ordered-same p all _ inside,
        ordered-in p all _ inside,
      )

  -- ---- the sets of a bind

  set-ok : (most : Option ℕ) (t : Trace) → TraceKeeps p t → (n : ℕ) → p n ≡ true → Agree (In p) (set_from most S (kept p all) t n) (set_from most scope all t n)
  set-ok most t keeps n i =
      let a = agree-map {P = Inside p} {Q = In p} (t.meaning (over_part p (setting_for most scope all n) (λ m. string_value m (kept p all)) documents) (alone n)) (t.meaning (setting_for most scope all n) (alone n))
      (λ v. bound_nodes (kept p all) (nodes_of v)) (λ v. bound_nodes all (nodes_of v))
      (keeps.meaning (setting_for most scope all n) (λ m. string_value m (kept p all)) documents (setting-sees most n i) (alone n) i)
      (λ v j. (bound (nodes_of v) j).0) (λ v j. (bound (nodes_of v) j).1) in
      record { same = ap (λ s. option_map (λ v. bound_nodes (kept p all) (nodes_of v)) (t.meaning s (alone n))) (setting-small most n) ∙ a.same; told = a.told }

  joined-in : (sets : List (List ℕ)) → Each (In p) sets → In p (joined sets)
  joined-in [] e = tt
  joined-in (ns ∷ sets) e = in-append p ns (joined sets) e.0 (joined-in sets e.1)

  sets-ok : (most : Option ℕ) (t : Trace) → TraceKeeps p t → (ns : List ℕ) → In p ns → Agree (Each (In p)) (each (set_from most S (kept p all) t) ns) (each (set_from most scope all t) ns)
  sets-ok most t keeps ns i = agree-each (set_from most S (kept p all) t) (set_from most scope all t) ns i (λ n j. set-ok most t keeps n j)

  pub reached-ok : (most : Option ℕ) (ts : List Trace) → Each (TraceKeeps p) ts → (ns : List ℕ) → In p ns → Agree (In p) (reached_through most S (kept p all) ts ns) (reached_through most scope all ts ns)
  reached-ok most [] e ns i = record { same = refl; told = i }
  reached-ok most (t ∷ ts) e ns i =
      agree-then {P = Each (In p)} {Q = In p} (each (set_from most S (kept p all) t) ns) (each (set_from most scope all t) ns)
      (λ sets. reached_through most S (kept p all) ts (in_order (kept p all) (joined sets))) (λ sets. reached_through most scope all ts (in_order all (joined sets)))
      (sets-ok most t e.0 ns i)
      (λ sets j.
      let inside = joined-in sets j in
      let r = reached-ok most ts e.1 (in_order all (joined sets)) (ordered-in p all (joined sets) inside) in
      record { same = ap (reached_through most S (kept p all) ts) (ordered-same p all (joined sets) inside) ∙ r.same; told = r.told })

  begun-ok : (begun S ≡ begun scope) × In p (begun scope)
  begun-ok = (ap as_list (h.same []), by (first_document scope.model scope.given.documents) refl)
    where
      by : (m : Option ℕ) → first_document scope.model scope.given.documents ≡ m → In p (as_list m)
      by None e = tt
      by (Some n) e = (h.inside [] n e, tt)

  pub bind-sets : (most : Option ℕ) (r : Rule) → Each (TraceKeeps p) (chain_around (chains scope) r.around) → TraceKeeps p r.node_set → Agree (Each (In p)) (sets_of most S (kept p all) r) (sets_of most scope all r)
  bind-sets most r around own =
      let a = reached-ok most (chain_around (chains scope) r.around) around (begun scope) begun-ok.1 in
      let first : Agree (In p) (reached_through most S (kept p all) (chain_around (chains S) r.around) (begun S)) (reached_through most scope all (chain_around (chains scope) r.around) (begun scope)) =
      record { same = ap (reached_through most S (kept p all) (chain_around (chains scope) r.around)) begun-ok.0 ∙ a.same; told = a.told } in
      agree-then {P = In p} {Q = Each (In p)} (reached_through most S (kept p all) (chain_around (chains S) r.around) (begun S)) (reached_through most scope all (chain_around (chains scope) r.around) (begun scope))
      (each (set_from most S (kept p all) r.node_set)) (each (set_from most scope all r.node_set)) first (λ ns i. sets-ok most r.node_set own ns i)

  -- ---- entries

  abbrev pub InPart : Entry → Type 0
  InPart e = p e.node ≡ true

  at-in : (bind : ℕ) (sets : List (List ℕ)) (n : ℕ) → p n ≡ true → (property : Property) → Each InPart (entries_at bind sets n property)
  at-in bind sets n i property = mapped (flat_map (standing_in n) sets)
    where
      mapped : (ps : List (ℕ × ℕ)) → Each InPart (map (entry_of bind property n) ps)
      mapped [] = tt
      mapped (q ∷ qs) = (i, mapped qs)

  on-in : (bind : ℕ) (sets : List (List ℕ)) (properties : List Property) (ns : List ℕ) → In p ns → Each InPart (entries_on bind sets properties ns)
  on-in bind sets properties [] i = tt
  on-in bind sets properties (n ∷ ns) i = each-append InPart (flat_map (entries_at bind sets n) properties) _ (inner properties) (on-in bind sets properties ns i.1)
    where
      inner : (qs : List Property) → Each InPart (flat_map (entries_at bind sets n) qs)
      inner [] = tt
      inner (q ∷ qs) = each-append InPart (entries_at bind sets n q) (flat_map (entries_at bind sets n) qs) (at-in bind sets n i.0 q) (inner qs)

  unwrapped : (m : Option (List (List ℕ))) → Told (Each (In p)) m → Each (In p) (unwrap_or m [])
  unwrapped None t = tt
  unwrapped (Some sets) t = t

  pub bind-entries : (bind : ℕ) (r : Rule) → Each (TraceKeeps p) (chain_around (chains scope) r.around) → TraceKeeps p r.node_set →
      (entries_by S (kept p all) bind r ≡ entries_by scope all bind r) × Each InPart (entries_by scope all bind r)
  bind-entries bind r around own =
      let a = bind-sets None r around own in
      let sets = unwrap_or (sets_of None scope all r) [] in
      let inside = joined-in sets (unwrapped (sets_of None scope all r) a.told) in (
        ap (λ m. entries_on bind (unwrap_or m []) (properties_of r) (in_order (kept p all) (joined (unwrap_or m [])))) a.same
            ∙ ap (entries_on bind sets (properties_of r)) (ordered-same p all (joined sets) inside),
        on-in bind sets (properties_of r) (in_order all (joined sets)) (ordered-in p all (joined sets) inside),
      )

  from-entries : (bind : ℕ) (binds : List Bind) → Each (λ ts. Each (TraceKeeps p) ts) (chains scope) →
      (entries_from S (kept p all) bind (map rule_of binds) ≡ entries_from scope all bind (map rule_of binds)) × Each InPart (entries_from scope all bind (map rule_of binds))
  from-entries bind [] known = (refl, tt)
  from-entries bind (x ∷ xs) known =
      let one = bind-entries bind (rule_of x) (around-known p (chains scope) x.around known) (trace-keeps p x.node_set) in
      let rest = from-entries (suc bind) xs known in (
        ap (λ es. (if x.model == scope.model then es else []) ++ entries_from S (kept p all) (suc bind) (map rule_of xs)) one.0
            ∙ ap (λ l. (if x.model == scope.model then entries_by scope all bind (rule_of x) else []) ++ l) rest.0,
        each-append InPart (if x.model == scope.model then entries_by scope all bind (rule_of x) else []) (entries_from scope all (suc bind) (map rule_of xs)) (by (x.model == scope.model) one.1) rest.1,
      )
    where
      by : (b : Bool) → Each InPart (entries_by scope all bind (rule_of x)) → Each InPart (if b then entries_by scope all bind (rule_of x) else [])
      by true e = e
      by false e = tt

  -- ---- exceptions

  exceptions : (earlier es : List Entry) → Each InPart es → exception_from (kept p all) earlier es ≡ exception_from all earlier es
  exceptions earlier [] i = refl
  exceptions earlier (e ∷ es) i =
      ap (λ b. or_later (if list_any (sets_same e) earlier then Some (twice e.node) else if is_calculate e && b then Some (on_parent e.node) else None) (exception_from (kept p all) (e ∷ earlier) es)) (elements-kept p all whole e.node i.0)
      ∙ ap (or_later (exception_at all earlier e)) (exceptions (e ∷ earlier) es i.1)

module _ (p : ℕ → Bool) (functions : Functions) (given : Given) (tables : Tables) (model : ℕ) (documents : List Document) (h : HasPlaces p (scope_of functions given tables model) documents) (all : List Visit) (whole : Each (Whole p) all) where
  abbrev large : Scope
  large = scope_of functions given tables model

  entries-ok : (all_entries (scope_with documents large) (kept p all) ≡ all_entries large all) × Each (λ e. p e.node ≡ true) (all_entries large all)
  entries-ok = from-entries p large documents h all whole 0 tables.binds (chains-known p [] tables.binds tt)

  pub applied-same : applied_over (scope_with documents large) (kept p all) ≡ applied_over large all
  applied-same =
      ap (λ es. unless (exception_from (kept p all) [] es) es) entries-ok.0
      ∙ ap (λ x. unless x (all_entries large all)) (exceptions p large documents h all whole [] (all_entries large all) entries-ok.1)

  pub entries-inside : Each (λ e. p e.node ≡ true) (all_entries large all)
  entries-inside = entries-ok.1
