-- The calculates of a form are static, stand in the data, and no node has two of them, so that they may be evaluated in turn.
use Rattle.std.proofs.Common.{◌≡◌, ◌==◌, Bool, true, false, cond, ◌||◌, ◌&&◌, List, [], ◌∷◌, Option, Some, None, refl, sym, ap, ◌∙◌, subst}
use Rattle.std.specs.List.{list_any}
use Rattle.xf_def_forest.specs.Visit.{Visit, visits}
use Rattle.xf_def_forest.specs.Shape.{has_elements, shape}
use Rattle.xf_def_xpath.proofs.VisitFacts.{no, none-some}
use Rattle.xf_def_model.specs.declared.property.Property.{Property}
use Rattle.xf_def_model.specs.declared.property.Property.TheVariants.{Kind, Calculate, Relevant, Readonly, Required, Constraint}
use Rattle.xf_def_model.specs.Rules.{scope_of}
use Rattle.xf_def_model.specs.Applied.{Entry, Exception, twice, on_parent, all_entries, is_property, is_calculate, sets_same, exception_at, or_later, exception_from}
use Rattle.xf_def_model.specs.Settled.{calculates}
use Rattle.xf_def_model.specs.Pertinent.{AllOf}
use Rattle.xf_def_model.proofs.EachLemmas.{each_then}
use Rattle.xf_law_recalculation.specs.Agree.InTurn.{AreSingle, FormInTurn}
use Rattle.xf_law_recalculation.proofs.AgreeLemmas.TurnLists.{none-any}
use Rattle.xf_law_recalculation.proofs.AgreeLemmas.FormEntries.{all-filter}
use Rattle.xf_law_recalculation.proofs.AgreeLemmas.FormSettled.{form_static, form_standing, applied-parts}

first-none : (o p : Option Exception) → or_later o p ≡ None → (o ≡ None) × (p ≡ None)
first-none None p h = (refl, h)
first-none (Some x) p h = none-some (sym h)

or-none : (a b : Bool) → (a || b) ≡ false → (a ≡ false) × (b ≡ false)
or-none true b h = no (sym h)
or-none false b h = (refl, h)

both-calculate : (p q : Property) → is_property p Calculate ≡ true → is_property q Calculate ≡ true → is_property p q ≡ true
both-calculate Calculate Calculate h i = refl
both-calculate Calculate Kind h i = no i
both-calculate Calculate Relevant h i = no i
both-calculate Calculate Readonly h i = no i
both-calculate Calculate Required h i = no i
both-calculate Calculate Constraint h i = no i
both-calculate Kind q h i = no h
both-calculate Relevant q h i = no h
both-calculate Readonly q h i = no h
both-calculate Required q h i = no h
both-calculate Constraint q h i = no h

module _ (all : List Visit) where
  apart-at : (earlier : List Entry) (e : Entry) → exception_at all earlier e ≡ None → list_any (sets_same e) earlier ≡ false
  apart-at earlier e h = by (list_any (sets_same e) earlier) (is_calculate e && has_elements all e.node) h
    where
      by : (a b : Bool) → cond a (Some (twice e.node)) (cond b (Some (on_parent e.node)) None) ≡ None → a ≡ false
      by true b i = none-some (sym i)
      by false b i = refl

  -- each sets what none before it sets
  apart : (earlier es : List Entry) → exception_from all earlier es ≡ None → AllOf (λ f. list_any (sets_same f) earlier ≡ false) es
  apart earlier [] h = tt
  apart earlier (e ∷ es) h =
      let parts = first-none (exception_at all earlier e) (exception_from all (e ∷ earlier) es) h in
      (apart-at earlier e parts.0, each_then _ _ (λ f off. (or-none (sets_same f e) (list_any (sets_same f) earlier) off).1) es (apart (e ∷ earlier) es parts.1))

  other-node : (e f : Entry) → is_calculate e ≡ true → is_calculate f ≡ true → sets_same f e ≡ false → (f.node == e.node) ≡ false
  other-node e f c d h = by (f.node == e.node) (sym (ap (λ x. (f.node == e.node) && x) (both-calculate f.property e.property d c)) ∙ h)
    where
      by : (a : Bool) → (a && true) ≡ false → a ≡ false
      by true i = i
      by false i = refl

  pub single : (earlier es : List Entry) → exception_from all earlier es ≡ None → AreSingle (calculates es)
  single earlier [] h = tt
  single earlier (e ∷ es) h =
      let parts = first-none (exception_at all earlier e) (exception_from all (e ∷ earlier) es) h in
      by (is_calculate e) refl (apart (e ∷ earlier) es parts.1) (single (e ∷ earlier) es parts.1)
    where
      by : (c : Bool) → is_calculate e ≡ c → AllOf (λ f. list_any (sets_same f) (e ∷ earlier) ≡ false) es → AreSingle (calculates es) → AreSingle (cond c (e ∷ calculates es) (calculates es))
      by true c off rest = (
        none-any (λ (f : Entry). f.node == e.node) (calculates es)
            (each_then _ _ (λ f k. other-node e f c k.1 (or-none (sets_same f e) (list_any (sets_same f) earlier) k.0).0) (calculates es) (all-filter _ is_calculate es off)),
        rest,
      )
      by false c off rest = rest

pub form_in_turn : FormInTurn
form_in_turn b functions given tables model forest entries es covered around applies ordered =
    let parts = applied-parts b functions given tables model forest entries covered around applies in
    record {
      around = around;
      static = form_static b functions given tables model forest entries covered around applies;
      standing = form_standing b functions given tables model forest entries covered around applies;
      single = subst (λ xs. AreSingle (calculates xs)) parts.1 (single (shape (visits forest.nodes)) [] (all_entries (scope_of functions given tables model) (shape (visits forest.nodes))) parts.0);
      ordered = ordered;
    }
