-- The truth that is kept of an entry that is passed over is the one that it has over the settled data.
use Rattle.std.proofs.Common.{◌≡◌, ℕ, zero, suc, ◌==◌, Bool, true, false, not, cond, ◌&&◌, ◌||◌, List, [], ◌∷◌, map, find, Option, Some, None, option_map, slice_get, refl, sym, ap, ◌∙◌, subst, inl, inr}
use Rattle.std.specs.Prelude.{◌⊎◌, option_and_then}
use Rattle.std.specs.List.{list_any}
use Rattle.std.proofs.lemmas.Bool.{eqb-true, or_left, or_right}
use Rattle.xf_def_syntax.specs.declared.expr.Expr.{Expr}
use Rattle.xf_def_syntax.specs.declared.form.Bind.{Bind}
use Rattle.xf_def_syntax.specs.declared.form.Tables.{Tables}
use Rattle.xf_def_forest.specs.Forest.{Forest}
use Rattle.xf_def_forest.specs.Visit.{Visit, visits}
use Rattle.xf_def_forest.specs.Shape.{has_elements, shape}
use Rattle.xf_def_forest.proofs.BackLaws.{and-true}
use Rattle.xf_funcs.specs.Called.{called}
use Rattle.xf_def_xpath.specs.declared.value.Value.{Value}
use Rattle.xf_def_xpath.specs.Conversions.{truth_of}
use Rattle.xf_def_xpath.specs.Given.{Given}
use Rattle.xf_def_xpath.proofs.VisitFacts.{no, none-some, some-same, self-same, turned}
use Rattle.xf_def_model.specs.declared.property.Property.{Property}
use Rattle.xf_def_model.specs.declared.property.Property.TheVariants.{Kind, Calculate, Relevant, Readonly, Required, Constraint}
use Rattle.xf_def_model.specs.Rules.{Scope, computed_of, rule_of}
use Rattle.xf_def_model.specs.Applied.{Entry, Exception, all_entries, exception_at, exception_from, is_calculate, is_property, on_parent, or_later, place_of, sets_same, twice}
use Rattle.xf_def_model.specs.Entries.{expression_in, expression_of, is_computed, value_by, value_of}
use Rattle.xf_def_model.specs.Settled.{Valued, bounds}
use Rattle.xf_def_model.specs.Pertinent.{AllOf, asking, is_same, placed_in, stands_as}
use Rattle.xf_def_model.specs.Properties.{sets_on}
use Rattle.xf_law_recalculation.specs.Agree.Covered.{is_covered}
use Rattle.xf_law_recalculation.specs.Agree.FormSettles.{calculate_covered}
use Rattle.xf_law_recalculation.specs.Agree.Settles.{IsSolid}
use Rattle.xf_law_recalculation.proofs.AgreeLemmas.FormSettled.{applied-parts}
use Rattle.xf_law_recalculation.proofs.AgreeLemmas.TurnLists.{at-stands, got-stands}
use Rattle.xf_law_recalculation.specs.Marks.Instances.{standing}
use Rattle.xf_law_recalculation.specs.Marks.Outside.{shape_now}
use Rattle.xf_law_recalculation.proofs.MarksLemmas.OutsideLaws.{outside_stood_law}
use Rattle.xf_law_recalculation.specs.Since.Since.{Stood, changes_since, kept_of, scope_then}
use Rattle.xf_law_recalculation.specs.Since.Pertinent.{AreOrdered, settled_nodes}
use Rattle.xf_law_recalculation.proofs.SinceLemmas.PassedWritten.{pertinent_truth}
use Rattle.xf_binds.specs.Held.{IsOnly, passes}
use Rattle.xf_binds.specs.Kept.{Kept, entries_of, truth_from}
use Rattle.xf_recalc.specs.Passes.{AreCoveredIn, ArePassed, AreTrue, MayPass}
use Rattle.xf_recalc.specs.Settles.{scope_in}
use Rattle.xf_recalc.specs.Turns.{truth_if}

-- ---- no property of a node is set twice

first-none : (o later : Option Exception) → or_later o later ≡ None → (o ≡ None) × (later ≡ None)
first-none None later h = (refl, h)
first-none (Some x) later h = none-some (sym h)

or-none : (a b : Bool) → (a || b) ≡ false → (a ≡ false) × (b ≡ false)
or-none true b h = no (sym h)
or-none false b h = (refl, h)

both : (a b : Bool) → a ≡ true → b ≡ true → (a && b) ≡ true
both true b h k = k
both false b h k = no h

turned-same : (e x : Entry) → sets_same e x ≡ false → sets_on e.node e.property x ≡ false
turned-same e x h =
    ap (λ b. b && is_property x.property e.property) (turned x.node e.node)
    ∙ ap (λ b. (e.node == x.node) && b) (turned (place_of x.property) (place_of e.property)) ∙ h

module _ (all : List Visit) where
  apart-at : (earlier : List Entry) (e : Entry) → exception_at all earlier e ≡ None → list_any (sets_same e) earlier ≡ false
  apart-at earlier e h = by (list_any (sets_same e) earlier) (is_calculate e && has_elements all e.node) h
    where
      by : (a b : Bool) → cond a (Some (twice e.node)) (cond b (Some (on_parent e.node)) None) ≡ None → a ≡ false
      by true b i = none-some (sym i)
      by false b i = refl

  off : (earlier es : List Entry) (x : Entry) → ((e : Entry) → list_any (sets_same e) earlier ≡ false → sets_same e x ≡ false) → exception_from all earlier es ≡ None → (k : ℕ) (e : Entry) → slice_get es k ≡ Some e →
      sets_same e x ≡ false
  off earlier [] x among h k e s = none-some s
  off earlier (y ∷ ys) x among h zero e s =
      ap (λ f. sets_same f x) (sym (some-same s)) ∙ among y (apart-at earlier y (first-none (exception_at all earlier y) (exception_from all (y ∷ earlier) ys) h).0)
  off earlier (y ∷ ys) x among h (suc k) e s =
      off (y ∷ earlier) ys x (λ f i. among f (or-none (sets_same f y) (list_any (sets_same f) earlier) i).1) (first-none (exception_at all earlier y) (exception_from all (y ∷ earlier) ys) h).1 k e s

  found-alone : (earlier es : List Entry) → exception_from all earlier es ≡ None → (k : ℕ) (e : Entry) → slice_get es k ≡ Some e → find (sets_on e.node e.property) es ≡ Some e
  found-alone earlier [] h k e s = none-some s
  found-alone earlier (y ∷ ys) h zero e s =
      ap (λ f. cond (sets_on e.node e.property f) (Some f) (find (sets_on e.node e.property) ys)) (some-same s)
      ∙ ap (λ b. cond b (Some e) (find (sets_on e.node e.property) ys)) (both _ _ (self-same e.node) (self-same (place_of e.property)))
  found-alone earlier (y ∷ ys) h (suc k) e s =
      let parts = first-none (exception_at all earlier y) (exception_from all (y ∷ earlier) ys) h in
      ap (λ b. cond b (Some y) (find (sets_on e.node e.property) ys))
      (turned-same e y (off (y ∷ earlier) ys y (λ f i. (or-none (sets_same f y) (list_any (sets_same f) earlier) i).0) parts.1 k e s))
      ∙ found-alone (y ∷ earlier) ys parts.1 k e s

-- ---- the one that stood

find-true : {X : Type 0} (p : X → Bool) (xs : List X) (v : X) → find p xs ≡ Some v → p v ≡ true
find-true p [] v h = none-some h
find-true p (x ∷ xs) v h = by (p x) refl h (find-true p xs v)
  where
    by : (b : Bool) → p x ≡ b → cond b (Some x) (find p xs) ≡ Some v → (find p xs ≡ Some v → p v ≡ true) → p v ≡ true
    by true i j later = ap p (sym (some-same j)) ∙ i
    by false i j later = later j

find-each : {X : Type 0} (p : X → Bool) (P : X → Type 0) (xs : List X) (v : X) → find p xs ≡ Some v → AllOf P xs → P v
find-each p P [] v h each = none-some h
find-each p P (x ∷ xs) v h each = by (p x) h (λ i. find-each p P xs v i each.1)
  where
    by : (b : Bool) → cond b (Some x) (find p xs) ≡ Some v → (find p xs ≡ Some v → P v) → P v
    by true j later = subst P (some-same j) each.0
    by false j later = later j

find-any : (p : Valued → Bool) (q : Entry → Bool) (vs : List Valued) (v : Valued) → find p vs ≡ Some v → q v.entry ≡ true → list_any q (entries_of vs) ≡ true
find-any p q [] v h i = none-some h
find-any p q (x ∷ xs) v h i = by (p x) h (find-any p q xs v)
  where
    by : (b : Bool) → cond b (Some x) (find p xs) ≡ Some v → (find p xs ≡ Some v → q v.entry ≡ true → list_any q (entries_of xs) ≡ true) → (q x.entry || list_any q (entries_of xs)) ≡ true
    by true j later = or_left (q x.entry) (list_any q (entries_of xs)) (ap (λ (y : Valued). q y.entry) (some-same j) ∙ i)
    by false j later = or_right (q x.entry) (list_any q (entries_of xs)) (later j i)

-- at the place of the entry, where its expression asks for that
abbrev placed_as : Bool → Entry → Entry → Bool
placed_as p e o = not p || ((e.position == o.position) && (e.size == o.size))

abbrev at_place_of : Entry → Entry → Bool
at_place_of old o = (old.position == o.position) && (old.size == o.size)

stands-too : (entries : List Entry) (e : Entry) (found : Option Entry) → IsOnly entries e found → (p : Bool) (old : Entry) → list_any (λ o. is_same e o && placed_as p e o) entries ≡ true →
    list_any (λ o. is_same e o && at_place_of old o) entries ≡ true → is_same e old ≡ true → (is_same e old && placed_as p e old) ≡ true
stands-too entries e found only p old h i same = both _ _ same (by found (sym (only (placed_as p e)) ∙ h) (sym (only (at_place_of old)) ∙ i))
  where
    by : (o : Option Entry) → passes (placed_as p e) o ≡ true → passes (at_place_of old) o ≡ true → placed_as p e old ≡ true
    by None x y = no x
    by (Some o) x y =
        let parts = and-true (old.position == o.position) (old.size == o.size) y in
        ap (λ n. not p || ((e.position == n) && (e.size == old.size))) (eqb-true old.position o.position parts.0)
        ∙ ap (λ n. not p || ((e.position == o.position) && (e.size == n))) (eqb-true old.size o.size parts.1) ∙ x

same-property : (p q : Property) → is_property p q ≡ true → q ≡ p
same-property Kind Kind h = refl
same-property Kind Calculate h = no h
same-property Kind Relevant h = no h
same-property Kind Readonly h = no h
same-property Kind Required h = no h
same-property Kind Constraint h = no h
same-property Calculate Kind h = no h
same-property Calculate Calculate h = refl
same-property Calculate Relevant h = no h
same-property Calculate Readonly h = no h
same-property Calculate Required h = no h
same-property Calculate Constraint h = no h
same-property Relevant Kind h = no h
same-property Relevant Calculate h = no h
same-property Relevant Relevant h = refl
same-property Relevant Readonly h = no h
same-property Relevant Required h = no h
same-property Relevant Constraint h = no h
same-property Readonly Kind h = no h
same-property Readonly Calculate h = no h
same-property Readonly Relevant h = no h
same-property Readonly Readonly h = refl
same-property Readonly Required h = no h
same-property Readonly Constraint h = no h
same-property Required Kind h = no h
same-property Required Calculate h = no h
same-property Required Relevant h = no h
same-property Required Readonly h = no h
same-property Required Required h = refl
same-property Required Constraint h = no h
same-property Constraint Kind h = no h
same-property Constraint Calculate h = no h
same-property Constraint Relevant h = no h
same-property Constraint Readonly h = no h
same-property Constraint Required h = no h
same-property Constraint Constraint h = refl

-- ---- the expression of an entry, which has one or none

module _ (scope : Scope) where
  abbrev Given_by : Option Expr → Type 0
  Given_by o = (option_map computed_of o ≡ None) ⊎ ((expr : Expr) × (option_map computed_of o ≡ Some (computed_of expr)) × (is_covered expr ≡ true))

  of : (o : Option Expr) → calculate_covered o ≡ true → Given_by o
  of None h = inl refl
  of (Some expr) h = inr (expr, refl, h)

  by-bind : (binds : List Bind) → AllOf (λ (bind : Bind). AreCoveredIn bind.properties) binds → (k : ℕ) (p : Property) →
      (option_and_then (λ r. expression_in r p) (slice_get (map rule_of binds) k) ≡ None)
      ⊎ ((expr : Expr) × (option_and_then (λ r. expression_in r p) (slice_get (map rule_of binds) k) ≡ Some (computed_of expr)) × (is_covered expr ≡ true))
  by-bind [] h k p = inl refl
  by-bind (bind ∷ binds) h zero Kind = inl refl
  by-bind (bind ∷ binds) h zero Calculate = of bind.properties.calculate h.0.calculate
  by-bind (bind ∷ binds) h zero Relevant = of bind.properties.relevant h.0.relevant
  by-bind (bind ∷ binds) h zero Readonly = of bind.properties.readonly h.0.readonly
  by-bind (bind ∷ binds) h zero Required = of bind.properties.required h.0.required
  by-bind (bind ∷ binds) h zero Constraint = of bind.properties.constraint h.0.constraint
  by-bind (bind ∷ binds) h (suc k) p = by-bind binds h.1 k p

-- ---- the truth

finish : (o : Option Value) (w : Value) (b : Bool) → kept_of o ≡ Some w → truth_of w ≡ b → option_map (λ value. Some (truth_of value)) o ≡ Some (Some b)
finish None w b h t = none-some h
finish (Some u) w b h t = ap (λ c. Some (Some c)) (ap truth_of (some-same h) ∙ t)

module _ (given : Given) (tables : Tables) (model : ℕ) (now : Forest) (kept : Kept) (es : List Entry) (order : AreOrdered called given tables model now kept.entries es) where
  abbrev scope : Scope
  scope = scope_in given tables model

  abbrev all : List Visit
  all = visits (settled_nodes bounds called given tables model now kept.entries)

  module _ (place : ℕ) (e : Entry) (got : slice_get kept.entries place ≡ Some e) (m : MayPass given tables model now kept e) where
    found-here : find (sets_on e.node e.property) kept.entries ≡ Some e
    found-here =
        let due = m.since.due in
        let parts = applied-parts bounds called given tables model now kept.entries due.covered due.around due.applies in
        ap (find (sets_on e.node e.property)) (sym parts.1)
        ∙ found-alone (shape (visits now.nodes)) [] (all_entries scope (shape (visits now.nodes))) parts.0 place e (ap (λ xs. slice_get xs place) parts.1 ∙ got)

    solid : IsSolid (standing now) e.node
    solid = at-stands (λ (x : Entry). IsSolid (standing now) x.node) kept.entries place e m.since.due.stand (got-stands kept.entries place e got)

    -- the value of one that stood for it
    module _ (v : Valued) (here : find (λ (x : Valued). is_same e x.entry) kept.stood ≡ Some v) (found : Option Entry) (only : IsOnly (entries_of kept.stood) e found) where
      same : is_same e v.entry ≡ true
      same = find-true (λ (x : Valued). is_same e x.entry) kept.stood v here

      here-was : find (λ (x : Valued). is_same e x.entry) m.was.stood ≡ Some v
      here-was = ap (find (λ (x : Valued). is_same e x.entry)) m.stood ∙ here

      abbrev is_placed : Bool
      is_placed = placed_in (expression_of scope e)

      stands : stands_as (asking scope (shape_now now) e) v.entry ≡ true
      stands =
          stands-too (entries_of kept.stood) e found only is_placed v.entry
          (ap (λ vs. list_any (λ o. is_same e o && placed_as is_placed e o) (entries_of vs)) (sym m.stood) ∙ (outside_stood_law scope now (changes_since kept.texts kept.lists m.was) kept.entries e m.outside).0)
          (find-any (λ (x : Valued). is_same e x.entry) (λ o. is_same e o && at_place_of v.entry o) kept.stood v here
          (both _ _ same (both _ _ (self-same v.entry.position) (self-same v.entry.size)))) same

      truth : kept_of (value_of (Some bounds.string) scope all e) ≡ v.value
      truth = elim (by-bind scope tables.binds m.covered e.bind e.property) [
        | inr x ↦
            find-each (λ (x : Valued). is_same e x.entry) (λ w. stands_as (asking scope (shape_now now) e) w.entry ≡ true → kept_of (value_of (Some bounds.string) scope all e) ≡ w.value) m.was.stood v here-was
            (pertinent_truth m.f m.taken kept.texts kept.lists bounds called given tables model m.was now kept.entries es m.since order e x.0 solid (x.1, x.2) m.outside) stands
        | inl none ↦
            let s = find-each (λ (x : Valued). is_same e x.entry) (Stood m.f bounds scope m.was now) m.was.stood v here-was m.since.stood in
            let sets = and-true (sets_same e v.entry) (e.bind == v.entry.bind) same in
            let property : v.entry.property ≡ e.property = same-property e.property v.entry.property (and-true (e.node == v.entry.node) (is_property e.property v.entry.property) sets.0).1 in
            let bind : e.bind ≡ v.entry.bind = eqb-true e.bind v.entry.bind sets.1 in
            let nothing : expression_of (scope_then scope m.was) v.entry ≡ None =
            ap (λ p. option_and_then (λ r. expression_in r p) (slice_get (map rule_of tables.binds) v.entry.bind)) property
            ∙ ap (λ k. option_and_then (λ r. expression_in r e.property) (slice_get (map rule_of tables.binds) k)) (sym bind) ∙ none in
            ap (λ x. kept_of (value_by (Some bounds.string) scope all e x)) none
            ∙ sym (s.truth ∙ ap (λ x. kept_of (value_by (Some bounds.string) (scope_then scope m.was) (visits m.was.forest.nodes) v.entry x)) nothing)
      ]

    worth : (b : Bool) → truth_from kept.stood e ≡ Some b → (found : Option Entry) → IsOnly (entries_of kept.stood) e found → option_map (λ value. Some (truth_of value)) (value_of (Some bounds.string) scope all e) ≡ Some (Some b)
    worth b told found only = by (find (λ (x : Valued). is_same e x.entry) kept.stood) refl told
      where
        of-value : (v : Valued) → find (λ (x : Valued). is_same e x.entry) kept.stood ≡ Some v → (o : Option Value) → v.value ≡ o → option_map truth_of o ≡ Some b →
            option_map (λ value. Some (truth_of value)) (value_of (Some bounds.string) scope all e) ≡ Some (Some b)
        of-value v here None i j = none-some j
        of-value v here (Some w) i j = finish (value_of (Some bounds.string) scope all e) w b (truth v here found only ∙ i) (some-same j)

        by : (o : Option Valued) → find (λ (x : Valued). is_same e x.entry) kept.stood ≡ o → option_map truth_of (option_and_then (λ (v : Valued). v.value) o) ≡ Some b →
            option_map (λ value. Some (truth_of value)) (value_of (Some bounds.string) scope all e) ≡ Some (Some b)
        by None h i = none-some i
        by (Some v) h i = of-value v h v.value refl i

  pub are-true : (marks : List Bool) → ArePassed given tables model now kept marks → (after : Forest) → after.nodes ≡ settled_nodes bounds called given tables model now kept.entries → AreTrue scope (visits after.nodes) kept marks
  are-true marks passed after is place e b got mark k =
      let m = passed place e got mark k.0 in
      let told : truth_from kept.stood e ≡ Some b = some-same (sym (ap (option_map (truth_from kept.stood)) (found-here place e got m)) ∙ k.2) in
      ap (λ nodes. truth_if scope (visits nodes) e (is_computed e)) is ∙ ap (truth_if scope all e) k.0 ∙ worth place e got m b told k.1.0 k.1.1
