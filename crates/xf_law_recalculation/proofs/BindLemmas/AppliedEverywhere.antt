-- What all binds of a form apply over a forest they apply over its instances, with the same exceptions; so the nodes of entries stand there.
use Rattle.std.proofs.Common.{◌≡◌, ℕ, suc, ◌==◌, Bool, true, false, ◌&&◌, ◌||◌, List, [], ◌∷◌, ◌++◌, map, Option, Some, None, refl, sym, ap, ◌∙◌, subst}
use Rattle.std.specs.Prelude.{Ok, if◌then◌else◌}
use Rattle.std.specs.List.{list_any}
use Rattle.std.proofs.lemmas.List.Folds.{list_any-append}
use Rattle.xf_def_syntax.specs.declared.form.Bind.{Bind}
use Rattle.xf_def_syntax.specs.declared.form.Tables.{Tables}
use Rattle.xf_def_forest.specs.Forest.{Forest, is_element}
use Rattle.xf_def_forest.specs.Visit.{Visit, visits, has, is_first}
use Rattle.xf_def_forest.specs.Shape.{shape, has_elements}
use Rattle.xf_def_forest.specs.Changes.{in_detached}
use Rattle.xf_def_forest.proofs.OrderLaws.{visits-different}
use Rattle.xf_def_values.specs.Functions.{Functions}
use Rattle.xf_def_xpath.specs.Given.{Given}
use Rattle.xf_def_xpath.specs.Agree.{numbers_of, are_apart}
use Rattle.xf_def_xpath.proofs.VisitFacts.{present}
use Rattle.xf_def_xpath.proofs.UntextedLaws.{solid-found}
use Rattle.xf_def_xpath.proofs.ForestVisits.{Each, forest-visits}
use Rattle.xf_def_model.specs.Rules.{Scope, Rule, rule_of, scope_of, chains}
use Rattle.xf_def_model.specs.Applied.{Entry, Exception, twice, on_parent, sets_same, is_calculate, entries_by, entries_from, all_entries, or_later, exception_at, exception_from, unless, applied}
use Rattle.xf_def_model.specs.Pertinent.{AllOf}
use Rattle.xf_law_recalculation.specs.Agree.Settles.{IsSolid}
use Rattle.xf_law_recalculation.specs.Agree.Forests.{bare}
use Rattle.xf_law_recalculation.proofs.AgreeLemmas.FormEntries.{elements-same}
use Rattle.xf_law_recalculation.proofs.AgreeLemmas.HeldShape.{shape-erased}
use Rattle.xf_law_recalculation.specs.Marks.Binds.{GivesTruths, instances_of, HasInstances}
use Rattle.xf_law_recalculation.specs.Marks.Instances.{standing}
use Rattle.xf_law_recalculation.proofs.MarksLemmas.Behind.{front-apart, numbers-erased}
use Rattle.xf_law_recalculation.proofs.MarksLemmas.Standing.{visits-parts, within}
use Rattle.xf_law_recalculation.proofs.MarksLemmas.BindInstances.{front-trees}
use Rattle.xf_law_recalculation.specs.Bind.WithTexts.{IsCovered}
use Rattle.xf_law_recalculation.specs.Bind.AllBinds.{AreSetsCovered, AppliedOfInstances, AppliedStands}
use Rattle.xf_law_recalculation.proofs.BindLemmas.LooseInstances.{any_bind_of_instances, first-has}
use Rattle.xf_law_recalculation.proofs.BindLemmas.SolidEntries.{entries-solid}
use Rattle.xf_law_recalculation.proofs.BindLemmas.FormChains.{all-append, around-told, chains-told}

unless-ok : {X : Type 0} (o : Option Exception) (x y : X) → unless o x ≡ Ok y → x ≡ y
unless-ok None x y h = cc h
unless-ok (Some o) x y h = cc h

or-none : (b : Bool) → (b || false) ≡ b
or-none true = refl
or-none false = refl

module _ (functions : Functions) (given : Given) (tables : Tables) (model : ℕ) (forest : Forest) (covered : AreSetsCovered tables) (h : HasInstances (scope_of functions given tables model) forest)
    (truths : GivesTruths (scope_of functions given tables model)) where
  abbrev scope : Scope
  scope = scope_of functions given tables model

  abbrev V : List Visit
  V = visits forest.nodes

  abbrev P : List Visit
  P = standing forest

  abbrev D : List Visit
  D = visits (in_detached forest.nodes)

  abbrev Solid : Entry → Type 0
  Solid e = IsSolid P e.node

  -- ---- entries

  same-bind : (k : ℕ) (bind : Bind) → IsCovered bind.node_set → entries_by scope (shape V) k (rule_of bind) ≡ entries_by scope (shape P) k (rule_of bind)
  same-bind k bind c =
      let around = around-told (chains scope) bind.around (chains-told [] tables.binds tt covered) in
      any_bind_of_instances scope forest k (rule_of bind) around.exprs bind.node_set h truths around.are refl around.covered c

  same-from : (k : ℕ) (binds : List Bind) → AllOf (λ (bind : Bind). IsCovered bind.node_set) binds → entries_from scope (shape V) k (map rule_of binds) ≡ entries_from scope (shape P) k (map rule_of binds)
  same-from k [] c = refl
  same-from k (bind ∷ binds) c =
      ap (λ es. (if bind.model == model then es else []) ++ entries_from scope (shape V) (suc k) (map rule_of binds)) (same-bind k bind c.0)
      ∙ ap (λ l. (if bind.model == model then entries_by scope (shape P) k (rule_of bind) else []) ++ l) (same-from (suc k) binds c.1)

  same-entries : all_entries scope (shape V) ≡ all_entries scope (shape P)
  same-entries = same-from 0 tables.binds covered

  solid-from : (k : ℕ) (rs : List Rule) → AllOf Solid (entries_from scope (shape P) k rs)
  solid-from k [] = tt
  solid-from k (r ∷ rs) = all-append Solid (if r.model == model then entries_by scope (shape P) k r else []) (entries_from scope (shape P) (suc k) rs) (by (r.model == model)) (solid-from (suc k) rs)
    where
      by : (b : Bool) → AllOf Solid (if b then entries_by scope (shape P) k r else [])
      by true = entries-solid scope forest h k r
      by false = tt

  -- ---- exceptions

  apart : are_apart (numbers_of (P ++ D)) ≡ true
  apart = ap (λ xs. are_apart (numbers_of xs)) (sym (visits-parts forest.nodes)) ∙ visits-different forest h.trees

  -- what is detached stands in no node of an instance
  none-behind : (n : ℕ) → has n (numbers_of P) ≡ true → (ys : List Visit) → Each (λ y. (p : ℕ) → has p y.above ≡ true → has p (numbers_of D) ≡ true) ys → has_elements ys n ≡ false
  none-behind n i [] e = refl
  none-behind n i (y ∷ ys) e = by (is_element y.content) (is_first n y.above) refl (none-behind n i ys e.1)
    where
      by : (a b : Bool) → is_first n y.above ≡ b → has_elements ys n ≡ false → ((a && b) || has_elements ys n) ≡ false
      by true true j later = sym (e.0 n (first-has n y.above j)) ∙ front-apart P D apart n i
      by true false j later = later
      by false b j later = later

  elements-alike : (n : ℕ) → IsSolid P n → has_elements (shape V) n ≡ has_elements (shape P) n
  elements-alike n s =
      let there : has n (numbers_of P) ≡ true =
      ap (has n) (sym (numbers-erased P)) ∙ present n (bare (instances_of forest)) s.0 (solid-found (bare (instances_of forest)) (forest-visits (instances_of forest) (front-trees forest h.trees)) n s.0 s.1).0 in
      in_data V n
      ∙ ap (λ xs. has_elements xs n) (visits-parts forest.nodes)
      ∙ list_any-append (λ y. is_element y.content && is_first n y.above) P D
      ∙ ap (λ b. has_elements P n || b) (none-behind n there D (within (in_detached forest.nodes)))
      ∙ or-none (has_elements P n)
      ∙ sym (in_data P n)
    where
      in_data : (all : List Visit) (k : ℕ) → has_elements (shape all) k ≡ has_elements all k
      in_data all k = ap (λ xs. has_elements xs k) (sym (shape-erased all)) ∙ elements-same all k

  same-exceptions : (earlier es : List Entry) → AllOf Solid es → exception_from (shape V) earlier es ≡ exception_from (shape P) earlier es
  same-exceptions earlier [] s = refl
  same-exceptions earlier (e ∷ es) s =
      ap (λ b. or_later (if list_any (sets_same e) earlier then Some (twice e.node) else if is_calculate e && b then Some (on_parent e.node) else None) (exception_from (shape V) (e ∷ earlier) es)) (elements-alike e.node s.0)
      ∙ ap (or_later (exception_at (shape P) earlier e)) (same-exceptions (e ∷ earlier) es s.1)

  abbrev made : List Entry
  made = all_entries scope (shape P)

  solid-made : AllOf Solid made
  solid-made = solid-from 0 scope.rules

  applied-alike : applied scope forest.nodes ≡ unless (exception_from (shape P) [] made) made
  applied-alike = ap (λ es. unless (exception_from (shape V) [] es) es) same-entries ∙ ap (λ o. unless o made) (same-exceptions [] made solid-made)

  stands : (entries : List Entry) → applied scope forest.nodes ≡ Ok entries → AllOf Solid entries
  stands entries e = subst (AllOf Solid) (unless-ok (exception_from (shape P) [] made) made entries (sym applied-alike ∙ e)) solid-made

pub applied_of_instances : AppliedOfInstances
applied_of_instances functions given tables model forest covered h truths = applied-alike functions given tables model forest covered h truths

pub applied_stands : AppliedStands
applied_stands functions given tables model forest entries covered h truths applies = stands functions given tables model forest covered h truths entries applies
