-- A limit that is passed where calculates are evaluated in turn is passed by the settled texts, and the other way round.
use Rattle.std.proofs.Common.{◌≡◌, ℕ, zero, suc, Bool, true, false, not, ◌||◌, ◌&&◌, List, [], ◌∷◌, ◌++◌, map, Option, Some, None, refl, sym, ap, ◌∙◌, subst}
use Rattle.std.specs.Prelude.{filter, is_none}
use Rattle.std.specs.List.{list_any}
use Rattle.std.proofs.lemmas.Bool.{or_left, or_right}
use Rattle.std.proofs.lemmas.List.Folds.{list_any-append}
use Rattle.xf_def_forest.specs.Forest.{Forest}
use Rattle.xf_def_forest.specs.Visit.{Visit, visits}
use Rattle.xf_def_xpath.specs.declared.value.Value.{Value}
use Rattle.xf_def_xpath.specs.Setting.{◌>>=◌}
use Rattle.xf_def_xpath.specs.Conversions.{string_of}
use Rattle.xf_def_xpath.proofs.VisitFacts.{no}
use Rattle.xf_def_model.specs.declared.property.Property.{Property}
use Rattle.xf_def_model.specs.declared.property.Property.TheVariants.{Kind, Calculate, Relevant, Readonly, Required, Constraint}
use Rattle.xf_def_model.specs.Rules.{Scope}
use Rattle.xf_def_model.specs.Nested.{setting_for}
use Rattle.xf_def_model.specs.Applied.{Entry, is_property, is_calculate}
use Rattle.xf_def_model.specs.Entries.{is_computed, value_of, text_of}
use Rattle.xf_def_model.specs.Settled.{Bounds, holding, calculates, settled, Passed, long, text, is_long, is_over, if_passed, passed}
use Rattle.xf_def_model.specs.Pertinent.{AllOf}
use Rattle.xf_def_model.proofs.EachLemmas.{each_then}
use Rattle.xf_def_model.proofs.CircularLemmas.{StandsAt, stands-map, stands-filter}
use Rattle.xf_law_recalculation.specs.Agree.InTurn.{in_turn, AreInTurn, tells_long, tells_text, IsFitting, FitInTurn, InTurnPassed, InTurnFitting}
use Rattle.xf_law_recalculation.proofs.AgreeLemmas.TurnLists.{all-later, at-stands, each-stands, none-any}
use Rattle.xf_law_recalculation.proofs.AgreeLemmas.FormEntries.{all-filter}
use Rattle.xf_law_recalculation.proofs.AgreeLemmas.InTurnLaws.{each-in_turn, stands-in_turn, text-in_turn, turn-append}

pub any-stands : {X : Type 0} (p : X → Bool) (xs : List X) (k : ℕ) (x : X) → StandsAt xs k x → p x ≡ true → list_any p xs ≡ true
any-stands p [] k x s h = absurd s
any-stands p (y ∷ ys) zero x s h = or_left (p y) (list_any p ys) (ap p s ∙ h)
any-stands p (y ∷ ys) (suc k) x s h = or_right (p y) (list_any p ys) (any-stands p ys k x s h)

any-left : {X : Type 0} (p : X → Bool) (xs ys : List X) → list_any p xs ≡ true → list_any p (xs ++ ys) ≡ true
any-left p xs ys h = list_any-append p xs ys ∙ or_left (list_any p xs) (list_any p ys) h

any-right : {X : Type 0} (p : X → Bool) (xs ys : List X) → list_any p ys ≡ true → list_any p (xs ++ ys) ≡ true
any-right p xs ys h = list_any-append p xs ys ∙ or_right (list_any p xs) (list_any p ys) h

append-one : {X : Type 0} (xs : List X) (y : X) (ys : List X) → (xs ++ y ∷ []) ++ ys ≡ xs ++ y ∷ ys
append-one [] y ys = refl
append-one (x ∷ xs) y ys = ap (λ l. x ∷ l) (append-one xs y ys)

calculate-computed : (p : Property) → is_property p Calculate ≡ true → is_property p Kind ≡ false
calculate-computed Kind h = no h
calculate-computed Calculate h = refl
calculate-computed Relevant h = no h
calculate-computed Readonly h = no h
calculate-computed Required h = no h
calculate-computed Constraint h = no h

module _ (b : Bounds) (scope : Scope) (entries : List Entry) (forest : Forest) (es : List Entry) (t : AreInTurn b scope entries forest es) where
  abbrev over : List Visit
  over = settled b scope entries (visits forest.nodes)

  abbrev longs : List Passed
  longs = map (λ e. long e.node) (filter (is_long b scope over) (filter is_computed entries))

  abbrev texts : List Passed
  texts = if_passed (list_any (λ e. is_over b.limits.text (text_of (Some b.string) scope over e)) (calculates entries)) text

  -- a calculate whose string is too long is told
  long-told : (k : ℕ) (e : Entry) → StandsAt (calculates entries) k e → text_of (Some b.string) scope over e ≡ None → list_any tells_long longs ≡ true
  long-told k e s none =
      let from = at-stands (λ (f : Entry). ((j : ℕ) × StandsAt entries j f) × (is_calculate f ≡ true)) (calculates entries) k e
      (all-filter (λ (f : Entry). (j : ℕ) × StandsAt entries j f) is_calculate entries (each-stands entries)) s in
      let computed = stands-filter is_computed entries e from.0.0 from.0.1 (ap not (calculate-computed e.property from.1)) in
      let is_so : is_long b scope over e ≡ true =
      or_right (is_none (value_of (Some b.string) scope over e)) (is_calculate e && is_none (text_of (Some b.string) scope over e)) (ap (λ c. c && is_none (text_of (Some b.string) scope over e)) from.1 ∙ ap (λ o. is_none o) none) in
      let is_in = stands-filter (is_long b scope over) (filter is_computed entries) e computed.0 computed.1 is_so in
      any-stands tells_long longs is_in.0 (long e.node) (stands-map (λ (f : Entry). long f.node) (filter (is_long b scope over) (filter is_computed entries)) is_in.0 e is_in.1) refl

  text-told : (k : ℕ) (e : Entry) → StandsAt (calculates entries) k e → is_over b.limits.text (text_of (Some b.string) scope over e) ≡ true → list_any tells_text texts ≡ true
  text-told k e s passes =
      ap (λ c. list_any tells_text (if_passed c text)) (any-stands (λ f. is_over b.limits.text (text_of (Some b.string) scope over f)) (calculates entries) k e s passes)

  -- where an entry of these stands among the calculates
  abbrev Stand : Entry → Type 0
  Stand e = (k : ℕ) × StandsAt (calculates entries) k e

  here : (before after : List Entry) (e : Entry) → es ≡ before ++ e ∷ after → Stand e
  here before after e split = (all-later Stand before (e ∷ after) (subst (AllOf Stand) split (each-in_turn b scope entries forest es t Stand (each-stands (calculates entries))))).0

  pub passed-in_turn : (before after : List Entry) (e : Entry) → es ≡ before ++ e ∷ after → (given : Option (List ℕ)) →
      text_of (Some b.string) scope (holding (visits forest.nodes) (in_turn b scope (visits forest.nodes) before [])) e ≡ given →
      (given ≡ None → list_any tells_long (passed b scope entries (visits forest.nodes)) ≡ true)
      × (is_over b.limits.text given ≡ true → list_any tells_text (passed b scope entries (visits forest.nodes)) ≡ true)
  passed-in_turn before after e split given is_given =
      let s = here before after e split in
      let same : text_of (Some b.string) scope over e ≡ given = sym (text-in_turn b scope entries forest es t before after e split) ∙ is_given in (
        (λ none. any-left tells_long ((longs ++ texts) ++ _) _ (any-left tells_long (longs ++ texts) _ (any-left tells_long longs texts (long-told s.0 e s.1 (same ∙ none))))),
        (λ passes. any-left tells_text ((longs ++ texts) ++ _) _ (any-left tells_text (longs ++ texts) _ (any-right tells_text longs texts (text-told s.0 e s.1 (ap (is_over b.limits.text) same ∙ passes))))),
      )

  -- ---- where none is passed

  abbrev Fits : Entry → Type 0
  Fits e = IsFitting b.limits.text (text_of (Some b.string) scope over e)

  fit-from : (before after : List Entry) → es ≡ before ++ after → FitInTurn b scope (visits forest.nodes) after (in_turn b scope (visits forest.nodes) before []) → AllOf Fits after
  fit-from before [] split h = tt
  fit-from before (e ∷ after) split h = (
    subst (IsFitting b.limits.text) (text-in_turn b scope entries forest es t before after e split) h.0,
    fit-from (before ++ e ∷ []) after (split ∙ sym (append-one before e after)) (subst (FitInTurn b scope (visits forest.nodes) after) (sym (turn-append b scope (visits forest.nodes) before (e ∷ []) [])) h.1),
  )

  all-fit : FitInTurn b scope (visits forest.nodes) es [] → AllOf Fits (calculates entries)
  all-fit h = each_then (λ (e : Entry). (k : ℕ) × StandsAt (calculates entries) k e) Fits
      (λ e s. let j = stands-in_turn b scope entries forest es t s.0 e s.1 in at-stands Fits es j.0 e (fit-from [] es refl h) j.1) (calculates entries) (each-stands (calculates entries))

  not-long : (c : Bool) (o : Option Value) (k : Value → Option (List ℕ)) → IsFitting b.limits.text (o >>= k) → (is_none o || (c && is_none (o >>= k))) ≡ false
  not-long c None k h = absurd h
  not-long c (Some v) k h = by c (k v) h
    where
      by : (c : Bool) (o : Option (List ℕ)) → IsFitting b.limits.text o → (c && is_none o) ≡ false
      by c None i = absurd i
      by true (Some cs) i = refl
      by false (Some cs) i = refl

  not-over : (o : Option (List ℕ)) → IsFitting b.limits.text o → is_over b.limits.text o ≡ false
  not-over None h = absurd h
  not-over (Some cs) h = h

  pub fitting-in_turn : FitInTurn b scope (visits forest.nodes) es [] →
      AllOf (λ e. is_long b scope over e ≡ false) (calculates entries)
      × (list_any (λ e. is_over b.limits.text (text_of (Some b.string) scope over e)) (calculates entries) ≡ false)
  fitting-in_turn h =
      let fits = all-fit h in (
        each_then Fits (λ e. is_long b scope over e ≡ false) (λ e f. not-long (is_calculate e) (value_of (Some b.string) scope over e) (string_of (setting_for (Some b.string) scope over e.node)) f) (calculates entries) fits,
        none-any (λ e. is_over b.limits.text (text_of (Some b.string) scope over e)) (calculates entries) (each_then Fits _ (λ e f. not-over (text_of (Some b.string) scope over e) f) (calculates entries) fits),
      )

pub in_turn_passed : InTurnPassed
in_turn_passed b scope entries forest es t before after e split given is_given = passed-in_turn b scope entries forest es t before after e split given is_given

pub in_turn_fitting : InTurnFitting
in_turn_fitting b scope entries forest es t h = fitting-in_turn b scope entries forest es t h
