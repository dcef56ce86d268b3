-- The settled contents of a model over the part are those over the whole list, and so are the values of its entries.
use Rattle.std.proofs.Common.{◌≡◌, ℕ, zero, suc, Bool, true, cond, ◌&&◌, ◌||◌, List, [], ◌∷◌, map, length, Option, Some, None, is_none, refl, sym, ap, ◌∙◌}
use Rattle.std.specs.Prelude.{filter}
use Rattle.std.specs.List.{list_any}
use Rattle.xf_def_syntax.specs.declared.form.Tables.{Tables}
use Rattle.xf_def_forest.specs.Visit.{Visit}
use Rattle.xf_def_forest.specs.Shape.{text_number, erased}
use Rattle.xf_def_values.specs.Functions.{Functions}
use Rattle.xf_def_xpath.specs.declared.value.Value.{Value}
use Rattle.xf_def_xpath.specs.Given.{Document, Given}
use Rattle.xf_def_xpath.proofs.ForestVisits.{Each, each-filter}
use Rattle.xf_def_model.specs.Rules.{Scope, scope_of}
use Rattle.xf_def_model.specs.Applied.{Entry, is_calculate}
use Rattle.xf_def_model.specs.Entries.{is_computed, value_of, text_of}
use Rattle.xf_def_model.specs.Settled.{Bounds, Contents, content_of, holding, calculates, fitting, content_by, computed_over, round, rounds, is_over, settled_contents, settled, Valued, values_over, settled_values, is_long}
use Rattle.xf_law_recalculation.proofs.BindLemmas.Filled.{AreLed}
use Rattle.xf_law_recalculation.specs.Within.Within.{Whole, kept}
use Rattle.xf_law_recalculation.proofs.HeldLemmas.Shapes.{contents-part, contents-whole}
use Rattle.xf_law_recalculation.specs.Part.Whole.{long_entries, has_long_text}
use Rattle.xf_law_recalculation.proofs.PartLemmas.Binds.{HasPlaces, scope_with}
use Rattle.xf_law_recalculation.proofs.PartLemmas.Graphs.{map-on, value-ok, text-ok}

module _ (p : ℕ → Bool) (functions : Functions) (given : Given) (tables : Tables) (model : ℕ) (documents : List Document) (h : HasPlaces p (scope_of functions given tables model) documents) (bounds : Bounds) (entries : List Entry)
    (inside : Each (λ e. p e.node ≡ true) entries) where
  abbrev large : Scope
  large = scope_of functions given tables model

  abbrev S : Scope
  S = scope_with documents large

  abbrev InPart : Entry → Type 0
  InPart e = p e.node ≡ true

  filter-on : (f g : Entry → Bool) (es : List Entry) → Each InPart es → ((e : Entry) → InPart e → f e ≡ g e) → filter f es ≡ filter g es
  filter-on f g [] i k = refl
  filter-on f g (e ∷ es) i k = ap (λ b. cond b (e ∷ filter f es) (filter f es)) (k e i.0) ∙ ap (λ l. cond (g e) (e ∷ l) l) (filter-on f g es i.1 k)

  any-on : (f g : Entry → Bool) (es : List Entry) → Each InPart es → ((e : Entry) → InPart e → f e ≡ g e) → list_any f es ≡ list_any g es
  any-on f g [] i k = refl
  any-on f g (e ∷ es) i k = ap (λ b. b || list_any f es) (k e i.0) ∙ ap (λ b. g e || b) (any-on f g es i.1 k)

  -- ---- over any list of which a part is made of whole trees

  module _ (all : List Visit) (whole : Each (Whole p) all) where
    pub computed-ok : computed_over bounds S entries (kept p all) ≡ computed_over bounds large entries all
    computed-ok =
        map-on InPart (content_by bounds S (kept p all)) (content_by bounds large all) (calculates entries) (each-filter InPart is_calculate entries inside)
        (λ e i. ap (λ t. (e.node, fitting bounds.limits.text t)) (text-ok p functions given tables model documents h all whole (Some bounds.string) e i))

    pub values-ok : values_over bounds S entries (kept p all) ≡ values_over bounds large entries all
    values-ok =
        map-on InPart (λ e. record { entry = e; value = value_of (Some bounds.string) S (kept p all) e }) (λ e. record { entry = e; value = value_of (Some bounds.string) large all e })
        (filter is_computed entries) (each-filter InPart is_computed entries inside)
        (λ e i. ap (with_value e) (value-ok p functions given tables model documents h all whole (Some bounds.string) e i).same)
      where
        with_value : Entry → Option Value → Valued
        with_value e v = record { entry = e; value = v }

    -- a string is too long over both or over neither
    long-ok : (e : Entry) → InPart e → is_long bounds S (kept p all) e ≡ is_long bounds large all e
    long-ok e i =
        ap (λ v. is_none v || (is_calculate e && is_none (text_of (Some bounds.string) S (kept p all) e))) (value-ok p functions given tables model documents h all whole (Some bounds.string) e i).same
        ∙ ap (λ t. is_none (value_of (Some bounds.string) large all e) || (is_calculate e && is_none t)) (text-ok p functions given tables model documents h all whole (Some bounds.string) e i)

    long_entries-ok : long_entries bounds S entries (kept p all) ≡ long_entries bounds large entries all
    long_entries-ok = filter-on (is_long bounds S (kept p all)) (is_long bounds large all) (filter is_computed entries) (each-filter InPart is_computed entries inside) long-ok

    long_text-ok : has_long_text bounds S entries (kept p all) ≡ has_long_text bounds large entries all
    long_text-ok =
        any-on (λ e. is_over bounds.limits.text (text_of (Some bounds.string) S (kept p all) e)) (λ e. is_over bounds.limits.text (text_of (Some bounds.string) large all e))
        (calculates entries) (each-filter InPart is_calculate entries inside)
        (λ e i. ap (is_over bounds.limits.text) (text-ok p functions given tables model documents h all whole (Some bounds.string) e i))

  -- ---- rounds

  module _ (all : List Visit) (whole : Each (Whole p) all) (texted : Each (λ y. p (text_number y.number) ≡ p y.number) all) (led : AreLed None (map erased all)) where
    round-ok : (contents : Contents) → round bounds S entries (kept p all) contents ≡ round bounds large entries all contents
    round-ok contents =
        ap (computed_over bounds S entries) (sym (contents-part p all whole texted led (content_of contents)))
        ∙ computed-ok (holding all contents) (contents-whole p all whole texted led (content_of contents))

    rounds-ok : (k : ℕ) (contents : Contents) → rounds bounds S entries (kept p all) k contents ≡ rounds bounds large entries all k contents
    rounds-ok zero contents = refl
    rounds-ok (suc k) contents = ap (rounds bounds S entries (kept p all) k) (round-ok contents) ∙ rounds-ok k (round bounds large entries all contents)

    pub settled-ok : settled_contents bounds S entries (kept p all) ≡ settled_contents bounds large entries all
    settled-ok = rounds-ok (length (calculates entries)) []

    -- the settled data of the part
    pub settled-part : settled bounds S entries (kept p all) ≡ kept p (settled bounds large entries all)
    settled-part = ap (holding (kept p all)) settled-ok ∙ sym (contents-part p all whole texted led (content_of (settled_contents bounds large entries all)))

    pub settled-whole : Each (Whole p) (settled bounds large entries all)
    settled-whole = contents-whole p all whole texted led (content_of (settled_contents bounds large entries all))

    pub settled_values-ok : settled_values bounds S entries (kept p all) ≡ settled_values bounds large entries all
    settled_values-ok = ap (values_over bounds S entries) settled-part ∙ values-ok (settled bounds large entries all) settled-whole

    pub settled_long-ok : long_entries bounds S entries (settled bounds S entries (kept p all)) ≡ long_entries bounds large entries (settled bounds large entries all)
    settled_long-ok = ap (long_entries bounds S entries) settled-part ∙ long_entries-ok (settled bounds large entries all) settled-whole

    pub settled_text-ok : has_long_text bounds S entries (settled bounds S entries (kept p all)) ≡ has_long_text bounds large entries (settled bounds large entries all)
    settled_text-ok = ap (has_long_text bounds S entries) settled-part ∙ long_text-ok (settled bounds large entries all) settled-whole
