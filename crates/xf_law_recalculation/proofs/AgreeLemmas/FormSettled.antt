-- The calculates of a form agree, so that one settled state exists and no other.
use Rattle.std.proofs.Common.{◌≡◌, ℕ, zero, suc, ◌+◌, ◌==◌, true, false, List, [], ◌∷◌, map, length, Option, Some, None, option_map, refl, sym, ap, ◌∙◌, arith, subst}
use Rattle.std.specs.Prelude.{filter, is_some, slice_get, option_and_then, Ok}
use Rattle.xf_def_syntax.specs.declared.expr.Expr.{Expr}
use Rattle.xf_def_syntax.specs.declared.form.Bind.{Bind}
use Rattle.xf_def_syntax.specs.declared.form.Tables.{Tables}
use Rattle.xf_def_forest.specs.Forest.{Forest}
use Rattle.xf_def_forest.specs.Visit.{Visit, visits}
use Rattle.xf_def_forest.specs.Shape.{erased, shape, has_elements}
use Rattle.xf_def_values.specs.Functions.{Functions}
use Rattle.xf_def_xpath.specs.Given.{Given}
use Rattle.xf_def_xpath.specs.Asked.{found}
use Rattle.xf_def_xpath.specs.Agree.{untexted, AreVisits}
use Rattle.xf_def_xpath.proofs.VisitFacts.{no, some-same, none-some, present}
use Rattle.xf_def_xpath.proofs.UntextedLaws.{solid-found}
use Rattle.xf_def_xpath.proofs.ShapeVisits.{shape-untexted, shape-visits}
use Rattle.xf_def_model.specs.declared.property.Property.{Property}
use Rattle.xf_def_model.specs.declared.property.Property.TheVariants.{Kind, Calculate, Relevant, Readonly, Required, Constraint}
use Rattle.xf_def_model.specs.Rules.{Rule, Scope, computed_of, rule_of, scope_of}
use Rattle.xf_def_model.specs.Entries.{expression_in}
use Rattle.xf_def_model.specs.Applied.{Entry, Exception, sets, all_entries, is_property, is_calculate, exception_from, unless}
use Rattle.xf_def_model.specs.Settled.{Bounds, calculates}
use Rattle.xf_def_model.specs.Pertinent.{AllOf}
use Rattle.xf_def_model.specs.Stands.{AreStanding}
use Rattle.xf_def_model.proofs.EachLemmas.{each_then, each_both}
use Rattle.xf_law_recalculation.specs.Agree.Covered.{is_covered}
use Rattle.xf_law_recalculation.specs.Agree.Settles.{AreHung, Surrounds, IsStatic}
use Rattle.xf_law_recalculation.specs.Agree.FormSettles.{calculate_covered, AreCovered, Applies, FormAgrees, FormSettlesOnce, FormSettles}
use Rattle.xf_law_recalculation.proofs.AgreeLemmas.FormEntries.{Stands, entries-standing, leaves, stands-once, elements-same, all-filter}
use Rattle.xf_law_recalculation.proofs.AgreeLemmas.HeldShape.{shape-erased, shape-in_elements}
use Rattle.xf_law_recalculation.proofs.AgreeLemmas.SettledStatic.{calculates_agree, settles_once, settles}

-- ---- its expression

calculate-is : (p : Property) → is_property p Calculate ≡ true → p ≡ Calculate
calculate-is Kind h = no h
calculate-is Calculate h = refl
calculate-is Relevant h = no h
calculate-is Readonly h = no h
calculate-is Required h = no h
calculate-is Constraint h = no h

-- the bind of a rule
rule-bind : (binds : List Bind) (k : ℕ) (r : Rule) (P : Bind → Type 0) → AllOf P binds → slice_get (map rule_of binds) k ≡ Some r → (bind : Bind) × (rule_of bind ≡ r) × P bind
rule-bind [] k r P h e = none-some e
rule-bind (bind ∷ binds) zero r P h e = (bind, some-same e, h.0)
rule-bind (bind ∷ binds) (suc k) r P h e = rule-bind binds k r P h.1 e

computed : (o : Option Expr) → calculate_covered o ≡ true → is_some (option_map computed_of o) ≡ true → (x : Expr) × (option_map computed_of o ≡ Some (computed_of x)) × (is_covered x ≡ true)
computed None c h = no h
computed (Some x) c h = (x, refl, c)

unless-ok : {X : Type 0} (o : Option Exception) (x y : X) → unless o x ≡ Ok y → (o ≡ None) × (x ≡ y)
unless-ok None x y h = (refl, cc h)
unless-ok (Some o) x y h = cc h

module _ (b : Bounds) (functions : Functions) (given : Given) (tables : Tables) (model : ℕ) (forest : Forest) (entries : List Entry)
    (covered : AreCovered tables) (around : Surrounds (scope_of functions given tables model) b.string forest) (applies : Applies functions given tables model forest entries) where
  abbrev scope : Scope
  scope = scope_of functions given tables model

  abbrev all : List Visit
  all = visits forest.nodes

  pub same_shape : map erased (shape all) ≡ shape all
  same_shape = shape-erased all

  pub v : AreVisits (shape all)
  v = subst AreVisits same_shape (shape-visits forest around.trees around.below)

  pub hung : AreHung (shape all)
  hung = subst AreHung same_shape (shape-in_elements scope b forest [] around tt)

  abbrev pub made : List Entry
  made = all_entries scope (shape all)

  pub applied-parts : (exception_from (shape all) [] made ≡ None) × (made ≡ entries)
  applied-parts = unless-ok (exception_from (shape all) [] made) made entries applies

  static-of : (e : Entry) → Stands (shape all) v hung scope.rules 0 e → (is_calculate e ≡ true → has_elements (shape all) e.node ≡ false) → is_calculate e ≡ true → IsStatic scope forest e
  static-of e s leaf c =
      let p : e.property ≡ Calculate = calculate-is e.property c in
      let bind = rule-bind tables.binds s.place s.rule (λ (bind : Bind). calculate_covered bind.properties.calculate ≡ true) covered s.is_rule in
      let x = computed bind.0.properties.calculate bind.2 (ap (λ (r : Rule). is_some r.calculate) bind.1 ∙ ap (sets s.rule) (sym p) ∙ s.property) in
      record {
        expr = x.0;
        expression =
            ap (λ k. option_and_then (λ r. expression_in r e.property) (slice_get scope.rules k)) (s.bind ∙ zero-plus s.place)
            ∙ ap (option_and_then (λ r. expression_in r e.property)) s.is_rule
            ∙ ap (expression_in s.rule) p
            ∙ ap (λ (r : Rule). r.calculate) (sym bind.1)
            ∙ x.1;
        covered = x.2;
        node = (s.node.0, ap (found e.node) (sym (shape-untexted all) ∙ ap untexted same_shape) ∙ s.node.1);
        leaf = sym (elements-same all e.node) ∙ ap (λ xs. has_elements xs e.node) same_shape ∙ leaf c;
      }
    where
      zero-plus : (k : ℕ) → 0 + k ≡ k
      zero-plus k = omega arith

  pub both : AllOf (λ e. Stands (shape all) v hung scope.rules 0 e × (is_calculate e ≡ true → has_elements (shape all) e.node ≡ false)) made
  both = each_both _ _ made (entries-standing (shape all) v hung scope) (leaves (shape all) v hung [] made applied-parts.0)

  static-made : AllOf (IsStatic scope forest) (calculates made)
  static-made = each_then _ _ (λ e h. static-of e h.0.0 h.0.1 h.1) (calculates made) (all-filter _ is_calculate made both)

  pub form_static : AllOf (IsStatic scope forest) (calculates entries)
  form_static = subst (λ es. AllOf (IsStatic scope forest) (calculates es)) applied-parts.1 static-made

  once : (e : Entry) → IsStatic scope forest e → length (filter (λ x. e.node == x.number) (shape all)) ≡ 1
  once e s =
      let solid : found e.node (untexted (shape all)) ≡ Some s.node.0 = ap (found e.node) (ap untexted (sym same_shape) ∙ shape-untexted all) ∙ s.node.1 in
      stands-once e.node (shape all) v.apart (present e.node (shape all) s.node.0 (solid-found (shape all) v e.node s.node.0 solid).0)

  pub form_standing : AreStanding entries all
  form_standing = each_then _ _ once (calculates entries) form_static

pub form_agrees : FormAgrees
form_agrees b functions given tables model forest entries covered around applies =
    calculates_agree b (scope_of functions given tables model) entries forest around (form_static b functions given tables model forest entries covered around applies)

pub form_settles_once : FormSettlesOnce
form_settles_once b functions given tables model forest entries covered around applies acyclic =
    settles_once b (scope_of functions given tables model) entries forest around (form_static b functions given tables model forest entries covered around applies)
    (form_standing b functions given tables model forest entries covered around applies) acyclic

pub form_settles : FormSettles
form_settles b functions given tables model forest entries covered around applies acyclic =
    settles b (scope_of functions given tables model) entries forest around (form_static b functions given tables model forest entries covered around applies)
    (form_standing b functions given tables model forest entries covered around applies) acyclic
