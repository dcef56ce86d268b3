-- The text and the truth of an entry do not depend on the numbers of texts.
use Rattle.std.proofs.Common.{◌≡◌, ℕ, ◌+◌, ◌==◌, Bool, true, false, not, cond, ◌||◌, ◌&&◌, List, [], ◌∷◌, ◌++◌, map, Option, Some, None, option_map, nat_lt, refl, sym, ap, ◌∙◌}
use Rattle.std.specs.Prelude.{filter, fold, is_none}
use Rattle.std.specs.List.{list_any}
use Rattle.std.proofs.lemmas.Bool.{eqb-true, ltb-true}
use Rattle.xf_def_syntax.specs.declared.form.Tables.{Tables}
use Rattle.xf_def_forest.specs.declared.content.Node.{Node}
use Rattle.xf_def_forest.specs.declared.content.Content.{Content}
use Rattle.xf_def_forest.specs.declared.content.Content.TheVariants as content
use Rattle.xf_def_forest.specs.Forest.{is_root, is_text, has_number}
use Rattle.xf_def_forest.specs.Limits.{size_of}
use Rattle.xf_def_forest.specs.Visit.{Visit, still_above, visit, visits_from, visits}
use Rattle.xf_def_forest.specs.Shape.{erased, without_text}
use Rattle.xf_def_forest.specs.WellFormed.{are_apart, are_below}
use Rattle.xf_def_forest.proofs.BackLaws.{and-true, not-true}
use Rattle.xf_def_forest.specs.Same.{IsRenumbering, renumbered_visit}
use Rattle.xf_def_values.specs.Functions.{Functions}
use Rattle.xf_def_xpath.specs.declared.value.Value.{Value}
use Rattle.xf_def_xpath.specs.Given.{Document, Given}
use Rattle.xf_def_xpath.specs.Asked.{found}
use Rattle.xf_def_xpath.specs.Conversions.{truth_of}
use Rattle.xf_def_xpath.specs.Same.{renumbered_value, renumbered_document, renumbered_property, renumbered_given}
use Rattle.xf_def_xpath.proofs.RenumberLaws.{truth-renumbered}
use Rattle.xf_def_xpath.proofs.VisitFacts.{no, none-some}
use Rattle.xf_def_xpath.proofs.UntextedLaws.{solid-found}
use Rattle.xf_def_xpath.proofs.ForestVisits.{forest-visits}
use Rattle.xf_def_model.specs.Rules.{Scope, scope_of}
use Rattle.xf_def_model.specs.Applied.{Entry, is_calculate}
use Rattle.xf_def_model.specs.Entries.{is_computed, value_of, text_of}
use Rattle.xf_def_model.specs.Settled.{Bounds, calculates, Passed, long, text, nodes, all_texts, is_long, is_over, if_passed, passed_over}
use Rattle.xf_def_model.specs.Pertinent.{AllOf}
use Rattle.xf_def_model.specs.Same.{renumbered_entry}
use Rattle.xf_def_model.proofs.EachLemmas.{each_then}
use Rattle.xf_def_model.proofs.RenumberEntries.{scope-goes, value-renumbered, text-renumbered}
use Rattle.xf_law_recalculation.proofs.AgreeLemmas.FormEntries.{all-filter}
use Rattle.xf_law_recalculation.specs.Agree.Evaluated.{AreAlike, EvaluatedText, EvaluatedTruth, EvaluatedLong, SurroundingsStay, EvaluatedPassed, SolidNumbers}

module _ (most : Option ℕ) (functions : Functions) (given : Given) (tables : Tables) (model : ℕ) (all other : List Visit) (e : Entry) (a : AreAlike given all other e) where
  abbrev scope : Scope
  scope = scope_of functions given tables model

  abbrev with_given : Given → Scope
  with_given g = record scope { given = g }

  abbrev at_node : ℕ → Entry
  at_node n = record e { node = n }

  same-text : text_of most scope all e ≡ text_of most scope other e
  same-text =
      sym (text-renumbered a.by a.renumbers scope (scope-goes a.by a.renumbers functions given tables model) all most e)
      ∙ ap (λ g. text_of most (with_given g) (map (renumbered_visit a.by) all) (renumbered_entry a.by e)) a.surroundings
      ∙ ap (λ n. text_of most scope (map (renumbered_visit a.by) all) (at_node n)) a.node
      ∙ ap (λ xs. text_of most scope xs e) a.visits

  value : option_map (renumbered_value a.by) (value_of most scope all e) ≡ value_of most scope other e
  value =
      sym (value-renumbered a.by a.renumbers scope (scope-goes a.by a.renumbers functions given tables model) all most e)
      ∙ ap (λ g. value_of most (with_given g) (map (renumbered_visit a.by) all) (renumbered_entry a.by e)) a.surroundings
      ∙ ap (λ n. value_of most scope (map (renumbered_visit a.by) all) (at_node n)) a.node
      ∙ ap (λ xs. value_of most scope xs e) a.visits

  truth-of : (o : Option Value) → option_map truth_of (option_map (renumbered_value a.by) o) ≡ option_map truth_of o
  truth-of None = refl
  truth-of (Some v) = ap Some (truth-renumbered a.by v)

  truth : option_map truth_of (value_of most scope all e) ≡ option_map truth_of (value_of most scope other e)
  truth = sym (truth-of (value_of most scope all e)) ∙ ap (option_map truth_of) value

  none-of : (o p : Option Value) → option_map truth_of o ≡ option_map truth_of p → is_none o ≡ is_none p
  none-of None None h = refl
  none-of None (Some v) h = cc h
  none-of (Some u) None h = cc h
  none-of (Some u) (Some v) h = refl

  none : is_none (value_of most scope all e) ≡ is_none (value_of most scope other e)
  none = none-of (value_of most scope all e) (value_of most scope other e) truth

documents-same : (f : ℕ → ℕ) (ds : List Document) → AllOf (λ (d : Document). f d.element ≡ d.element) ds → map (renumbered_document f) ds ≡ ds
documents-same f [] h = refl
documents-same f (d ∷ ds) h = ap (λ k. record d { element = k } ∷ map (renumbered_document f) ds) h.0 ∙ ap (λ l. d ∷ l) (documents-same f ds h.1)

pub surroundings_stay : SurroundingsStay
surroundings_stay by given documents no_event =
    ap (λ ds. record given { documents = ds; event = option_map (map (renumbered_property by)) given.event }) (documents-same by given.documents documents)
    ∙ ap (λ event. record given { event = event }) (ap (option_map (map (renumbered_property by))) no_event ∙ sym no_event)

pub evaluated_text : EvaluatedText
evaluated_text most functions given tables model all other e a = same-text most functions given tables model all other e a

pub evaluated_truth : EvaluatedTruth
evaluated_truth most functions given tables model all other e a = truth most functions given tables model all other e a

pub evaluated_long : EvaluatedLong
evaluated_long b functions given tables model all other e a =
    ap (λ c. c || (is_calculate e && is_none (text_of (Some b.string) (scope_of functions given tables model) all e))) (none (Some b.string) functions given tables model all other e a)
    ∙ ap (λ o. is_none (value_of (Some b.string) (scope_of functions given tables model) other e) || (is_calculate e && is_none o)) (same-text (Some b.string) functions given tables model all other e a)

-- ---- limits

filter-each : {X : Type 0} (p q : X → Bool) (xs : List X) → AllOf (λ x. p x ≡ q x) xs → filter p xs ≡ filter q xs
filter-each p q [] h = refl
filter-each p q (x ∷ xs) h = ap (λ c. cond c (x ∷ filter p xs) (filter p xs)) h.0 ∙ ap (λ l. cond (q x) (x ∷ l) l) (filter-each p q xs h.1)

any-each : {X : Type 0} (p q : X → Bool) (xs : List X) → AllOf (λ x. p x ≡ q x) xs → list_any p xs ≡ list_any q xs
any-each p q [] h = refl
any-each p q (x ∷ xs) h = ap (λ c. c || list_any p xs) h.0 ∙ ap (λ c. q x || c) (any-each p q xs h.1)

folded : (f : ℕ → ℕ) (k : Visit → ℕ) → ((x : Visit) → k (renumbered_visit f x) ≡ k x) → (n : ℕ) (xs : List Visit) → fold (λ a x. a + k x) n (map (renumbered_visit f) xs) ≡ fold (λ a x. a + k x) n xs
folded f k h n [] = refl
folded f k h n (x ∷ xs) = ap (λ m. fold (λ a y. a + k y) (n + m) (map (renumbered_visit f) xs)) (h x) ∙ folded f k h (n + k x) xs

module _ (b : Bounds) (functions : Functions) (given : Given) (tables : Tables) (model : ℕ) (all other : List Visit) (entries : List Entry) (by : ℕ → ℕ)
    (same : IsRenumbering by) (are : map (renumbered_visit by) all ≡ other) (stay : renumbered_given by given ≡ given) (nodes_stay : AllOf (λ e. by e.node ≡ e.node) entries) where
  abbrev in_form : Scope
  in_form = scope_of functions given tables model

  alike : (e : Entry) → by e.node ≡ e.node → AreAlike given all other e
  alike e h = record { by = by; renumbers = same; visits = are; surroundings = stay; node = h }

  abbrev Stays : Entry → Type 0
  Stays e = by e.node ≡ e.node

  each-long : AllOf (λ e. is_long b in_form all e ≡ is_long b in_form other e) (filter is_computed entries)
  each-long = each_then (λ (e : Entry). Stays e × (is_computed e ≡ true)) _ (λ e h. evaluated_long b functions given tables model all other e (alike e h.0)) (filter is_computed entries) (all-filter Stays is_computed entries nodes_stay)

  each-over : AllOf (λ e. is_over b.limits.text (text_of (Some b.string) in_form all e) ≡ is_over b.limits.text (text_of (Some b.string) in_form other e)) (calculates entries)
  each-over = each_then (λ (e : Entry). Stays e × (is_calculate e ≡ true)) _ (λ e h. ap (is_over b.limits.text) (evaluated_text (Some b.string) functions given tables model all other e (alike e h.0))) (calculates entries) (all-filter Stays is_calculate entries nodes_stay)

  abbrev longs : List Visit → List Passed
  longs xs = map (λ (e : Entry). long e.node) (filter (is_long b in_form xs) (filter is_computed entries))

  abbrev is_any : List Visit → Bool
  is_any xs = list_any (λ e. is_over b.limits.text (text_of (Some b.string) in_form xs e)) (calculates entries)

  abbrev count : List Visit → ℕ
  count xs = fold (λ a (x : Visit). a + cond (not (is_root x.content)) 1 0) 0 xs

  abbrev size : List Visit → ℕ
  size xs = fold (λ a (x : Visit). a + size_of x.content) 0 xs

  abbrev told : List Passed → Bool → ℕ → ℕ → List Passed
  told words any counted sized = words ++ if_passed any text ++ if_passed (nat_lt b.limits.nodes counted) nodes ++ if_passed (nat_lt b.limits.all sized) all_texts

  same-passed : passed_over b in_form entries all ≡ passed_over b in_form entries other
  same-passed =
      ap (λ es. told (map (λ (e : Entry). long e.node) es) (is_any all) (count all) (size all)) (filter-each (is_long b in_form all) (is_long b in_form other) (filter is_computed entries) each-long)
      ∙ ap (λ c. told (longs other) c (count all) (size all))
      (any-each (λ e. is_over b.limits.text (text_of (Some b.string) in_form all e)) (λ e. is_over b.limits.text (text_of (Some b.string) in_form other e)) (calculates entries) each-over)
      ∙ ap (λ n. told (longs other) (is_any other) n (size all)) (sym (folded by (λ (x : Visit). cond (not (is_root x.content)) 1 0) (λ x. refl) 0 all) ∙ ap count are)
      ∙ ap (λ n. told (longs other) (is_any other) (count other) n) (sym (folded by (λ (x : Visit). size_of x.content) (λ x. refl) 0 all) ∙ ap size are)

pub evaluated_passed : EvaluatedPassed
evaluated_passed b functions given tables model all other entries by same are stay nodes_stay = same-passed b functions given tables model all other entries by same are stay nodes_stay

-- ---- numbers of nodes that are no texts

same-option : {A : Type 0} {x y : A} → Some x ≡ Some y → x ≡ y
same-option h = cc h

module _ (n : ℕ) where
  -- the first node with the number is no text, and the number comes once
  solid-from : (above nodes : List Node) → are_apart nodes ≡ true → (x : Visit) → found n (map erased (visits_from above nodes)) ≡ Some x → is_text x.content ≡ false →
      (has_number n nodes ≡ true) × (list_any (λ z. (z.number == n) && is_text z.content) nodes ≡ false)
  solid-from above [] a x h t = none-some h
  solid-from above (z ∷ zs) a x h t = by (z.number == n) refl h (λ e. solid-from (z ∷ still_above z.depth above) zs parts.1 x e t)
    where
      parts : (not (has_number z.number zs) ≡ true) × (are_apart zs ≡ true)
      parts = and-true (not (has_number z.number zs)) (are_apart zs) a

      text-kept : (c : Content) → is_text (without_text c) ≡ is_text c
      text-kept content.Root = refl
      text-kept (content.Element name) = refl
      text-kept (content.Attribute name old) = refl
      text-kept (content.Text old) = refl

      absent : (ys : List Node) → has_number n ys ≡ false → list_any (λ y. (y.number == n) && is_text y.content) ys ≡ false
      absent [] i = refl
      absent (y ∷ ys) i = of (y.number == n) (has_number n ys) (is_text y.content) i (absent ys)
        where
          of : (p q r : Bool) → (p || q) ≡ false → (q ≡ false → list_any (λ v. (v.number == n) && is_text v.content) ys ≡ false) → ((p && r) || list_any (λ v. (v.number == n) && is_text v.content) ys) ≡ false
          of true q r j k = no (sym j)
          of false q r j k = k j

      by : (b : Bool) → (z.number == n) ≡ b → cond b (Some (erased (visit above z))) (found n (map erased (visits_from (z ∷ still_above z.depth above) zs))) ≡ Some x →
          (found n (map erased (visits_from (z ∷ still_above z.depth above) zs)) ≡ Some x → (has_number n zs ≡ true) × (list_any (λ y. (y.number == n) && is_text y.content) zs ≡ false)) →
          ((b || has_number n zs) ≡ true) × (((b && is_text z.content) || list_any (λ y. (y.number == n) && is_text y.content) zs) ≡ false)
      by true e i later = (
        refl,
        ap (λ c. c || list_any (λ (y : Node). (y.number == n) && is_text y.content) zs) (sym (text-kept z.content) ∙ ap (λ (v : Visit). is_text v.content) (same-option i) ∙ t)
            ∙ absent zs (ap (λ m. has_number m zs) (sym (eqb-true z.number n e)) ∙ not-true (has_number z.number zs) parts.0),
      )
      by false e i later = later i

  below-next : (next : ℕ) (nodes : List Node) → are_below next nodes ≡ true → has_number n nodes ≡ true → nat_lt n next ≡ true
  below-next next [] h i = no i
  below-next next (z ∷ zs) h i = by (z.number == n) refl i (below-next next zs (and-true (nat_lt z.number next) (are_below next zs) h).1)
    where
      by : (b : Bool) → (z.number == n) ≡ b → (b || has_number n zs) ≡ true → (has_number n zs ≡ true → nat_lt n next ≡ true) → nat_lt n next ≡ true
      by true e j later = ap (λ m. nat_lt m next) (sym (eqb-true z.number n e)) ∙ (and-true (nat_lt z.number next) (are_below next zs) h).0
      by false e j later = later j

pub solid_numbers : SolidNumbers
solid_numbers forest n trees solid =
    let out = solid-found (map erased (visits forest.nodes)) (forest-visits forest trees) n solid.0 solid.1 in
    let both = solid-from n [] forest.nodes trees.apart solid.0 out.0 (not-of (is_text solid.0.content) out.1) in
    (ltb-true n forest.next (below-next n forest.next forest.nodes trees.below both.0), both.1)
  where
    not-of : (b : Bool) → not b ≡ true → b ≡ false
    not-of true h = sym h
    not-of false h = refl
