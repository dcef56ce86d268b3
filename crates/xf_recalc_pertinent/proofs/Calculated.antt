-- The calculates of nodes with another text are what begins where all entries stood and no list is marked.
use Rattle.std.proofs.Common.{◌≡◌, ℕ, zero, suc, ◌+◌, ◌<◌, ◌==◌, Bool, true, false, cond, not, ◌&&◌, ◌||◌, List, [], ◌∷◌, length, Option, Some, None, option_map, slice_get, slice_set, refl, sym, ap, ◌∙◌, subst, arith}
use Rattle.std.specs.Prelude.{filter, replicate}
use Rattle.std.specs.List.{list_any}
use Rattle.std.proofs.lemmas.Bool.{eqb-true, false≢true}
use Rattle.std.proofs.lemmas.Bool.Decides.{nat_tests}
use Rattle.xf_def_forest.specs.Visit.{has}
use Rattle.xf_def_model.specs.declared.property.Property.{Property}
use Rattle.xf_def_model.specs.declared.property.Property.TheVariants.{Kind, Calculate, Relevant, Readonly, Required, Constraint}
use Rattle.xf_def_model.specs.Rules.{Rule}
use Rattle.xf_def_model.specs.Applied.{Entry, is_calculate, is_property}
use Rattle.xf_def_model.specs.Entries.{is_computed}
use Rattle.xf_def_model.specs.Pertinent.{is_same, stands_as}
use Rattle.xf_def_model.specs.Properties.{sets_on}
use Rattle.xf_binds.specs.declared.web.Asks.{Asks}
use Rattle.xf_binds.specs.Held.{AreSingle, passes, place_on}
use Rattle.xf_binds.specs.Kept.{Kept, entries_of}
use Rattle.xf_recalc_pertinent.specs.OfTable.{changes_in}
use Rattle.xf_recalc_pertinent.specs.Places.{asks_at, is_marked}
use Rattle.xf_recalc_pertinent.specs.Begun.{AreBegun, AreCalculated, asking_with, is_begun_at, is_begun_by, is_begun_in, is_placed_in}
use Rattle.xf_recalc_pertinent.proofs.Lists.{none-some, some-same}
use Rattle.xf_recalc_pertinent.proofs.Members.{At, at-any, at-filter}
use Rattle.xf_recalc_pertinent.proofs.Spreads.{marked-set, set-length}

self-same : (n : ℕ) → (n == n) ≡ true
self-same n = grind (arith, nat_tests)

calculate-is : (p : Property) → is_property p Calculate ≡ true → p ≡ Calculate
calculate-is Kind h = absurd (false≢true h)
calculate-is Calculate h = refl
calculate-is Relevant h = absurd (false≢true h)
calculate-is Readonly h = absurd (false≢true h)
calculate-is Required h = absurd (false≢true h)
calculate-is Constraint h = absurd (false≢true h)

and-parts : (a b : Bool) → (a && b) ≡ true → (a ≡ true) × (b ≡ true)
and-parts true b h = (refl, h)
and-parts false b h = absurd (false≢true h)

-- ---- by the place of a calculate

pub place-within : (es : List Entry) (n : ℕ) (p : Property) (j : ℕ) → place_on es n p ≡ Some j → j < length es
place-within [] n p j h = none-some h
place-within (e ∷ es) n p j h = by (sets_on n p e) (place_on es n p) (place-within es n p) j h
  where
    by : (b : Bool) (o : Option ℕ) → ((i : ℕ) → o ≡ Some i → i < length es) → (j : ℕ) → cond b (Some 0) (option_map suc o) ≡ Some j → j < suc (length es)
    by true o rest j h = let same : 0 ≡ j = some-same h in omega (arith, same)
    by false None rest j h = none-some h
    by false (Some i) rest j h = let l = rest i refl in let same : suc i ≡ j = some-same h in omega (arith, l, same)

place-sets : (es : List Entry) (n : ℕ) (p : Property) (j : ℕ) → place_on es n p ≡ Some j → passes (sets_on n p) (slice_get es j) ≡ true
place-sets [] n p j h = none-some h
place-sets (e ∷ es) n p j h = by (sets_on n p e) refl (place_on es n p) (place-sets es n p) j h
  where
    by : (b : Bool) → sets_on n p e ≡ b → (o : Option ℕ) → ((i : ℕ) → o ≡ Some i → passes (sets_on n p) (slice_get es i) ≡ true) → (j : ℕ) → cond b (Some 0) (option_map suc o) ≡ Some j
        → passes (sets_on n p) (slice_get (e ∷ es) j) ≡ true
    by true s o rest zero h = s
    by true s o rest (suc j) h = cc h
    by false s None rest j h = none-some h
    by false s (Some i) rest zero h = cc h
    by false s (Some i) rest (suc j) h = rest j (let same : i ≡ j = cc h in ap Some same)

none-sets : (es : List Entry) (n : ℕ) (p : Property) → place_on es n p ≡ None → (j : ℕ) → passes (sets_on n p) (slice_get es j) ≡ false
none-sets [] n p h j = refl
none-sets (e ∷ es) n p h j = by (sets_on n p e) refl (place_on es n p) (none-sets es n p) j h
  where
    by : (b : Bool) → sets_on n p e ≡ b → (o : Option ℕ) → (o ≡ None → (i : ℕ) → passes (sets_on n p) (slice_get es i) ≡ false) → (j : ℕ) → cond b (Some 0) (option_map suc o) ≡ None
        → passes (sets_on n p) (slice_get (e ∷ es) j) ≡ false
    by true s o rest j h = cc h
    by false s None rest zero h = s
    by false s None rest (suc j) h = rest refl j
    by false s (Some i) rest j h = cc h

-- no other calculate has the node
one-sets : (es : List Entry) → AreSingle es → (n j place : ℕ) → place_on es n Calculate ≡ Some j → passes (sets_on n Calculate) (slice_get es place) ≡ (place == j)
one-sets es single n j place h = by (place == j) refl (passes (sets_on n Calculate) (slice_get es place)) refl
  where
    only : (o : Option Entry) → slice_get es place ≡ o → passes (sets_on n Calculate) o ≡ true → j ≡ place
    only None g s = absurd (false≢true s)
    only (Some e) g s =
        let parts = and-parts (e.node == n) (is_property e.property Calculate) s in
        let found : place_on es n Calculate ≡ Some place =
        ap (λ m. place_on es m Calculate) (sym (eqb-true e.node n parts.0)) ∙ ap (place_on es e.node) (sym (calculate-is e.property parts.1)) ∙ single place e g in
        some-same (sym h ∙ found)

    by : (a : Bool) → (place == j) ≡ a → (b : Bool) → passes (sets_on n Calculate) (slice_get es place) ≡ b → b ≡ a
    by true e true s = refl
    by true e false s = absurd (false≢true (sym s ∙ ap (λ i. passes (sets_on n Calculate) (slice_get es i)) (eqb-true place j e) ∙ place-sets es n Calculate j h))
    by false e true s = absurd (false≢true (sym e ∙ ap (λ i. place == i) (only (slice_get es place) refl s) ∙ self-same place))
    by false e false s = refl

or-nothing : (b : Bool) → (b || false) ≡ b
or-nothing true = refl
or-nothing false = refl

module _ (es : List Entry) where
  pub calculated-one : AreSingle es → (n j : ℕ) (old new : List Bool) → length old ≡ length es → Some j ≡ place_on es n Calculate → new ≡ slice_set old j true → AreCalculated es (n ∷ []) old new
  calculated-one single n j old new size h is = record {
    size = ap length is ∙ set-length old j;
    each = λ place.
        ap (λ l. is_marked l place) is
        ∙ marked-set old j place (subst (λ k. j < k) (sym size) (place-within es n Calculate j (sym h)))
        ∙ ap (λ b. b || is_marked old place) (sym (or-nothing (passes (sets_on n Calculate) (slice_get es place)) ∙ one-sets es single n j place (sym h)));
  }

  pub calculated-none : (n : ℕ) (old : List Bool) → None ≡ place_on es n Calculate → AreCalculated es (n ∷ []) old old
  calculated-none n old h = record {
    size = refl;
    each = λ place. ap (λ b. b || is_marked old place) (sym (or-nothing (passes (sets_on n Calculate) (slice_get es place)) ∙ none-sets es n Calculate (sym h) place));
  }

  pub calculated-start : (old : List Bool) → AreCalculated es [] old old
  calculated-start old = record { size = refl; each = λ place. refl }

  -- one node more
  pub calculated-more : (n : ℕ) (ns more : List ℕ) (old mid new : List Bool)
      → ((p : ℕ → Bool) → list_any p more ≡ (p n || list_any p ns)) → AreCalculated es ns old mid → AreCalculated es (n ∷ []) mid new → AreCalculated es more old new
  calculated-more n ns more old mid new is first second = record {
    size = second.size ∙ first.size;
    each = λ place.
        let p = λ (m : ℕ). passes (sets_on m Calculate) (slice_get es place) in
        second.each place
        ∙ ap (λ b. (p n || false) || b) (first.each place)
        ∙ joined (p n) (list_any p ns) (is_marked old place)
        ∙ ap (λ b. b || is_marked old place) (sym (is p));
  }
    where
      joined : (a b c : Bool) → ((a || false) || (b || c)) ≡ ((a || b) || c)
      joined true b c = refl
      joined false b c = refl

-- ---- what begins

none-marked : (count place : ℕ) → is_marked (replicate count false) place ≡ false
none-marked zero place = refl
none-marked (suc count) zero = refl
none-marked (suc count) (suc place) = none-marked count place

none-size : (count : ℕ) → length (replicate count false) ≡ count
none-size zero = refl
none-size (suc count) = ap suc (none-size count)

stands-self : (rules : List Rule) (e : Entry) (kept : Kept) (place : ℕ) → stands_as (asking_with rules e (asks_at kept.asks place)) e ≡ true
stands-self rules e kept place =
    ap (λ b. ((b && is_property e.property e.property) && (e.bind == e.bind)) && (not (is_placed_in rules e) || ((e.position == e.position) && (e.size == e.size)))) (self-same e.node)
    ∙ ap (λ b. (b && (e.bind == e.bind)) && (not (is_placed_in rules e) || ((e.position == e.position) && (e.size == e.size)))) (property-self e.property)
    ∙ ap (λ b. b && (not (is_placed_in rules e) || ((e.position == e.position) && (e.size == e.size)))) (self-same e.bind)
    ∙ ap (λ b. not (is_placed_in rules e) || (b && (e.size == e.size))) (self-same e.position)
    ∙ ap (λ b. not (is_placed_in rules e) || b) (self-same e.size)
    ∙ always (not (is_placed_in rules e))
  where
    always : (b : Bool) → (b || true) ≡ true
    always true = refl
    always false = refl

    property-self : (p : Property) → is_property p p ≡ true
    property-self Kind = refl
    property-self Calculate = refl
    property-self Relevant = refl
    property-self Readonly = refl
    property-self Required = refl
    property-self Constraint = refl

none-looks : (lists ns : List ℕ) → lists ≡ [] → list_any (λ n. has n lists) ns ≡ false
none-looks lists [] none = refl
none-looks lists (n ∷ ns) none = ap (λ l. has n l || list_any (λ m. has m lists) ns) none ∙ none-looks lists ns none

computed : (p : Property) → is_property p Calculate ≡ true → not (is_property p Kind) ≡ true
computed Kind h = absurd (false≢true h)
computed Calculate h = refl
computed Relevant h = absurd (false≢true h)
computed Readonly h = absurd (false≢true h)
computed Required h = absurd (false≢true h)
computed Constraint h = absurd (false≢true h)

never : (ns : List ℕ) → list_any (λ n. false) ns ≡ false
never [] = refl
never (n ∷ ns) = never ns

module _ (rules : List Rule) (kept : Kept) (settled : entries_of kept.stood ≡ filter is_computed kept.entries) (lists : kept.lists ≡ []) where
  stands : (place : ℕ) (e : Entry) → slice_get kept.entries place ≡ Some e → is_computed e ≡ true → list_any (stands_as (asking_with rules e (asks_at kept.asks place))) (entries_of kept.stood) ≡ true
  stands place e h c =
      ap (list_any (stands_as (asking_with rules e (asks_at kept.asks place)))) settled
      ∙ (let f = at-filter is_computed kept.entries place e h c in
      at-any (stands_as (asking_with rules e (asks_at kept.asks place))) (filter is_computed kept.entries) f.0 e f.1 (stands-self rules e kept place))

  texts-any : (e : Entry) (ns : List ℕ) (b : Bool) → is_calculate e ≡ b → list_any (λ n. sets_on n Calculate e) ns ≡ (b && has e.node ns)
  texts-any e [] true h = refl
  texts-any e [] false h = refl
  texts-any e (n ∷ ns) true h = ap (λ b. ((e.node == n) && b) || list_any (λ m. sets_on m Calculate e) ns) h ∙ and-yes (e.node == n) ∙ ap (λ b. (e.node == n) || b) (texts-any e ns true h)
    where
      and-yes : (a : Bool) → ((a && true) || list_any (λ m. sets_on m Calculate e) ns) ≡ (a || list_any (λ m. sets_on m Calculate e) ns)
      and-yes true = refl
      and-yes false = refl
  texts-any e (n ∷ ns) false h = ap (λ b. ((e.node == n) && b) || list_any (λ m. sets_on m Calculate e) ns) h ∙ and-no (e.node == n) ∙ texts-any e ns false h
    where
      and-no : (a : Bool) → ((a && false) || list_any (λ m. sets_on m Calculate e) ns) ≡ list_any (λ m. sets_on m Calculate e) ns
      and-no true = refl
      and-no false = refl

  begins : (place : ℕ) → list_any (λ n. passes (sets_on n Calculate) (slice_get kept.entries place)) kept.texts ≡ is_begun_at rules kept place
  begins place = by (slice_get kept.entries place) refl
    where
      asks : Asks
      asks = asks_at kept.asks place

      of : (e : Entry) → slice_get kept.entries place ≡ Some e → (c : Bool) → is_computed e ≡ c → (k : Bool) → is_calculate e ≡ k → (k && has e.node kept.texts) ≡ (c && is_begun_by rules (changes_in kept) e asks)
      of e h true g k i =
          sym (ap (λ b. (not b || (is_calculate e && has e.node kept.texts)) || list_any (λ n. has n kept.lists) asks.looks) (stands place e h g)
          ∙ ap (λ b. (is_calculate e && has e.node kept.texts) || b) (none-looks kept.lists asks.looks lists)
          ∙ or-nothing (is_calculate e && has e.node kept.texts) ∙ ap (λ b. b && has e.node kept.texts) i)
      of e h false g true i = absurd (false≢true (sym g ∙ computed e.property i))
      of e h false g false i = refl

      by : (o : Option Entry) → slice_get kept.entries place ≡ o → list_any (λ n. passes (sets_on n Calculate) o) kept.texts ≡ is_begun_in rules (changes_in kept) o asks
      by None h = never kept.texts
      by (Some e) h = texts-any e kept.texts (is_calculate e) refl ∙ of e h (is_computed e) refl (is_calculate e) refl

  pub begun-texts : (nodes : List ℕ) (marks new : List Bool) → nodes ≡ kept.texts → marks ≡ replicate (length kept.entries) false → AreCalculated kept.entries nodes marks new → AreBegun rules kept new
  begun-texts nodes marks new same none are = record {
    size = are.size ∙ ap length none ∙ none-size (length kept.entries);
    each = λ place.
        are.each place
        ∙ ap (λ b. list_any (λ n. passes (sets_on n Calculate) (slice_get kept.entries place)) nodes || b) (ap (λ l. is_marked l place) none ∙ none-marked (length kept.entries) place)
        ∙ or-nothing (list_any (λ n. passes (sets_on n Calculate) (slice_get kept.entries place)) nodes)
        ∙ ap (list_any (λ n. passes (sets_on n Calculate) (slice_get kept.entries place))) same
        ∙ begins place;
  }
