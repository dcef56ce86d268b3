-- What is not pertinent keeps its value.
use Rattle.std.proofs.Common.{◌≡◌, ℕ, ◌==◌, Bool, true, false, not, ◌&&◌, ◌||◌, List, [], ◌∷◌, ◌++◌, map, Option, Some, None, option_map, refl, sym, ap, ◌∙◌}
use Rattle.std.specs.List.{list_any}
use Rattle.std.proofs.lemmas.Bool.{eqb-true}
use Rattle.xf_def_syntax.specs.declared.expr.Expr.{Expr}
use Rattle.xf_def_forest.specs.Forest.{Forest, is_text}
use Rattle.xf_def_forest.specs.Visit.{visits, has}
use Rattle.xf_def_forest.specs.Shape.{erased}
use Rattle.xf_def_forest.specs.Same.{IsRenumbering, renumbered_visit}
use Rattle.xf_def_forest.proofs.BackLaws.{and-true, or-false}
use Rattle.xf_def_forest.proofs.RenumberLaws.{map-map, filter-through, visits-renumbered}
use Rattle.xf_def_xpath.specs.declared.value.Value.{Value}
use Rattle.xf_def_xpath.specs.Given.{Document}
use Rattle.xf_def_xpath.specs.Asked.{found}
use Rattle.xf_def_xpath.specs.Conversions.{truth_of}
use Rattle.xf_def_xpath.specs.Agree.{untexted}
use Rattle.xf_def_xpath.specs.Same.{renumbered_value}
use Rattle.xf_def_xpath.proofs.RenumberLaws.{found-renumbered, truth-renumbered}
use Rattle.xf_def_xpath.proofs.VisitFacts.{no}
use Rattle.xf_def_xpath.proofs.UntextedLaws.{solid-found}
use Rattle.xf_def_xpath.proofs.ForestVisits.{forest-visits}
use Rattle.xf_def_model.specs.declared.property.Property.{Property}
use Rattle.xf_def_model.specs.declared.property.Property.TheVariants.{Kind, Calculate, Relevant, Readonly, Required, Constraint}
use Rattle.xf_def_model.specs.Rules.{Scope, calls_place}
use Rattle.xf_def_model.specs.Applied.{Entry, is_property, is_calculate, sets_same}
use Rattle.xf_def_model.specs.Entries.{reads_of, touches}
use Rattle.xf_def_model.specs.Pertinent.{Changes, Asking, asking, placed_in, is_same, stands_as, reads_any, is_begun, calculated_in}
use Rattle.xf_law_recalculation.specs.Agree.Forests.{bare, InBoth, renumbered_forest}
use Rattle.xf_law_recalculation.specs.Marks.Marks.{IsUnmarked}
use Rattle.xf_law_recalculation.specs.Marks.Outside.{WasThere, Premises, shape_now, evaluated, touched, IsOutside, OutsideStood, Since, OldOutside, OutsideValue, OutsideTruth, OutsideText}
use Rattle.xf_law_recalculation.proofs.MarksLemmas.Numbers.{but_numbers_value, but_numbers_text}

any-append : (g : ℕ → Bool) (ns ms : List ℕ) → list_any g ns ≡ false → list_any g ms ≡ false → list_any g (ns ++ ms) ≡ false
any-append g [] ms h i = i
any-append g (n ∷ ns) ms h i = let parts = or-false (g n) (list_any g ns) h in ap (λ b. b || list_any g (ns ++ ms)) parts.0 ∙ any-append g ns ms parts.1 i

same-property : (p q : Property) → is_property p q ≡ true → q ≡ p
same-property Kind Kind h = refl
same-property Kind Calculate h = no h
same-property Kind Relevant h = no h
same-property Kind Readonly h = no h
same-property Kind Required h = no h
same-property Kind Constraint h = no h
same-property Calculate Kind h = no h
same-property Calculate Calculate h = refl
same-property Calculate Relevant h = no h
same-property Calculate Readonly h = no h
same-property Calculate Required h = no h
same-property Calculate Constraint h = no h
same-property Relevant Kind h = no h
same-property Relevant Calculate h = no h
same-property Relevant Relevant h = refl
same-property Relevant Readonly h = no h
same-property Relevant Required h = no h
same-property Relevant Constraint h = no h
same-property Readonly Kind h = no h
same-property Readonly Calculate h = no h
same-property Readonly Relevant h = no h
same-property Readonly Readonly h = refl
same-property Readonly Required h = no h
same-property Readonly Constraint h = no h
same-property Required Kind h = no h
same-property Required Calculate h = no h
same-property Required Relevant h = no h
same-property Required Readonly h = no h
same-property Required Required h = refl
same-property Required Constraint h = no h
same-property Constraint Kind h = no h
same-property Constraint Calculate h = no h
same-property Constraint Relevant h = no h
same-property Constraint Readonly h = no h
same-property Constraint Required h = no h
same-property Constraint Constraint h = refl

-- ---- what is not begun

module _ (scope : Scope) (now : Forest) (changes : Changes) (entries : List Entry) (e : Entry) (outside : IsOutside scope now changes entries e) where
  abbrev a : Asking
  a = asking scope (shape_now now) e

  abbrev stood : Bool
  stood = list_any (stands_as a) changes.stood

  abbrev reads_marked : Bool
  reads_marked = reads_any (shape_now now) a changes.texts

  abbrev is_set : Bool
  is_set = is_calculate a.entry && has a.entry.node changes.texts

  abbrev looks_marked : Bool
  looks_marked = list_any (λ n. has n changes.lists) a.looks

  parts : (is_begun (shape_now now) changes a ≡ false) × (reads_any (shape_now now) a (calculated_in (evaluated scope now changes entries)) ≡ false)
  parts = or-false (is_begun (shape_now now) changes a) _ outside

  by_looks : (((not stood || reads_marked) || is_set) ≡ false) × (looks_marked ≡ false)
  by_looks = or-false ((not stood || reads_marked) || is_set) looks_marked parts.0

  by_set : ((not stood || reads_marked) ≡ false) × (is_set ≡ false)
  by_set = or-false (not stood || reads_marked) is_set by_looks.0

  by_reads : (not stood ≡ false) × (reads_marked ≡ false)
  by_reads = or-false (not stood) reads_marked by_set.0

  outside_stood : (stood ≡ true) × (is_calculate e ≡ true → has e.node changes.texts ≡ false)
  outside_stood = (is_true stood by_reads.0, λ h. ap (λ b. b && has e.node changes.texts) (sym h) ∙ by_set.1)
    where
      is_true : (b : Bool) → not b ≡ false → b ≡ true
      is_true true h = refl
      is_true false h = no (sym h)

  unmarked : IsUnmarked (touched scope now changes entries) changes.lists scope now e
  unmarked = record { reads = any-append (touches (shape_now now) (reads_of scope (shape_now now) e)) changes.texts (calculated_in (evaluated scope now changes entries)) by_reads.1 parts.1; looks = by_looks.1 }

pub outside_stood_law : OutsideStood
outside_stood_law scope now changes entries e outside = outside_stood scope now changes entries e outside

-- ---- a node that stood and kept its number

bare-renumbered : (f : ℕ → ℕ) → IsRenumbering f → (forest : Forest) → untexted (bare (renumbered_forest f forest)) ≡ map (renumbered_visit f) (untexted (bare forest))
bare-renumbered f same forest =
    ap (λ xs. untexted (map erased xs)) (visits-renumbered f same forest.nodes)
    ∙ ap untexted (map-map erased (renumbered_visit f) (visits forest.nodes) ∙ sym (map-map (renumbered_visit f) erased (visits forest.nodes)))
    ∙ filter-through (renumbered_visit f) (λ y. not (is_text y.content)) (λ y. not (is_text y.content)) (λ y. refl) (bare forest)

module _ (f : ℕ → ℕ) (most : ℕ) (scope : Scope) (documents : List Document) (now before : Forest) (changes : Changes) (entries : List Entry) (e old : Entry) (expr : Expr)
    (since : Since f most scope documents now before changes entries) (h : OldOutside f scope now before changes entries e old expr) where
  stands : (is_same e old ≡ true) × ((not (calls_place expr) || ((e.position == old.position) && (e.size == old.size))) ≡ true)
  stands = let both = and-true (is_same e old) _ h.stands in
      (both.0, ap (λ x. not (placed_in x) || ((e.position == old.position) && (e.size == old.size))) (sym h.of.0) ∙ both.1)

  set_same : (sets_same e old ≡ true) × ((e.bind == old.bind) ≡ true)
  set_same = and-true (sets_same e old) (e.bind == old.bind) stands.0

  one_node : ((e.node == old.node) ≡ true) × (is_property e.property old.property ≡ true)
  one_node = and-true (e.node == old.node) (is_property e.property old.property) set_same.0

  node_same : e.node ≡ old.node
  node_same = eqb-true e.node old.node one_node.0

  was_there : WasThere f expr e old
  was_there = record {
    node = h.had.1 ∙ sym node_same;
    property = same-property e.property old.property one_node.1;
    bind = sym (eqb-true e.bind old.bind set_same.1);
    place = λ k. let both = and-true (e.position == old.position) (e.size == old.size) (ap (λ b. not b || ((e.position == old.position) && (e.size == old.size))) (sym k) ∙ stands.1) in
        (sym (eqb-true e.position old.position both.0), sym (eqb-true e.size old.size both.1));
  }

  here : InBoth now (renumbered_forest f before) e.node
  here =
      let x = h.node in
      let z = h.had.0 in
      let second : found e.node (untexted (bare (renumbered_forest f before))) ≡ Some (renumbered_visit f z.0) =
      ap (λ n. found n (untexted (bare (renumbered_forest f before)))) (node_same ∙ sym h.had.1)
      ∙ ap (found (f old.node)) (bare-renumbered f since.renumbers before)
      ∙ found-renumbered f since.renumbers old.node (untexted (bare before))
      ∙ ap (option_map (renumbered_visit f)) z.1 in
      let one : x.0 ≡ renumbered_visit f z.0 =
      since.same_but.nodes.stay e.node x.0 (renumbered_visit f z.0) (solid-found (bare now) (forest-visits now since.around.trees) e.node x.0 x.1).0
      (solid-found (bare (renumbered_forest f before)) (forest-visits (record (renumbered_forest f before) { next = since.same_but.trees.0 }) since.same_but.trees.1) e.node (renumbered_visit f z.0) second).0 in
      (x.0, x.1, second ∙ ap Some (sym one))

  premises : Premises most scope documents now before f (touched scope now changes entries) changes.lists e old expr
  premises = (since.renumbers, since.around, since.same_but, h.of, was_there, here, unmarked scope now changes entries e h.outside)

pub outside_value : OutsideValue
outside_value most scope documents indexes event now before f changes entries e old expr since h =
    but_numbers_value most scope documents indexes event now before f (touched scope now changes entries) changes.lists e old expr (premises f most scope documents now before changes entries e old expr since h)

truths-same : (f : ℕ → ℕ) (o : Option Value) → option_map truth_of (option_map (renumbered_value f) o) ≡ option_map truth_of o
truths-same f None = refl
truths-same f (Some v) = ap Some (truth-renumbered f v)

pub outside_truth : OutsideTruth
outside_truth most scope documents indexes event now before f changes entries e old expr since h =
    ap (option_map truth_of) (outside_value most scope documents indexes event now before f changes entries e old expr since h) ∙ truths-same f _

pub outside_text : OutsideText
outside_text most scope documents indexes event now before f changes entries e old expr since h =
    but_numbers_text most scope documents indexes event now before f (touched scope now changes entries) changes.lists e old expr (premises f most scope documents now before changes entries e old expr since h)
