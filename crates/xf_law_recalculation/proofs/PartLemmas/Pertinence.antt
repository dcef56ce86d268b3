-- What a change concerns over the part it concerns over the whole list, wherever it was made: so the same entries are evaluated.
use Rattle.std.proofs.Common.{◌≡◌, ℕ, zero, suc, ◌==◌, Bool, true, false, not, cond, ◌&&◌, ◌||◌, List, [], ◌∷◌, map, length, Option, Some, None, refl, sym, ap, ◌∙◌}
use Rattle.std.specs.Prelude.{filter}
use Rattle.std.specs.List.{list_any}
use Rattle.std.proofs.lemmas.Bool.{eqb-true}
use Rattle.xf_def_syntax.specs.declared.form.Tables.{Tables}
use Rattle.xf_def_forest.specs.Visit.{Visit, has, above_in, ancestors_of}
use Rattle.xf_def_values.specs.Functions.{Functions}
use Rattle.xf_def_xpath.specs.Given.{Document, Given}
use Rattle.xf_def_xpath.specs.Asked.{found}
use Rattle.xf_def_xpath.proofs.VisitFacts.{no, found-number, or-left, or-right, self-same}
use Rattle.xf_def_xpath.proofs.ForestVisits.{Each, each-filter, each-found}
use Rattle.xf_def_model.specs.Rules.{Scope, scope_of}
use Rattle.xf_def_model.specs.Applied.{Entry, is_calculate}
use Rattle.xf_def_model.specs.Entries.{is_computed, expression_of, reads_of, looks_of, touches}
use Rattle.xf_def_model.specs.Pertinent.{Changes, Asking, placed_in, asking, askings, stands_as, reads_any, is_begun, calculated_in, follows, next_wave, waves, pertinent_of, pertinent}
use Rattle.xf_law_recalculation.specs.Within.Within.{Whole, kept}
use Rattle.xf_law_recalculation.proofs.WithinLemmas.Within.{In, in-has, above-same}
use Rattle.xf_law_recalculation.proofs.PartLemmas.Binds.{HasPlaces, scope_with}
use Rattle.xf_law_recalculation.proofs.PartLemmas.Graphs.{map-on, reads-ok, looks-ok}

module _ (p : ℕ → Bool) (all : List Visit) (whole : Each (Whole p) all) where
  -- no node outside is read
  none-read : (reads ns : List ℕ) → In p reads → ((k : ℕ) → has k ns ≡ true → p k ≡ false) → list_any (λ m. has m reads) ns ≡ false
  none-read reads [] i h = refl
  none-read reads (n ∷ ns) i h = ap (λ b. b || list_any (λ m. has m reads) ns) (by (has n reads) refl) ∙ none-read reads ns i (λ k j. h k (or-right (k == n) (has k ns) j))
    where
      by : (b : Bool) → has n reads ≡ b → b ≡ false
      by true e = no (sym (h n (or-left (n == n) (has n ns) (self-same n))) ∙ in-has p reads n i e)
      by false e = refl

  -- a node that is not in the part is not found there
  out-found : (n : ℕ) (ys : List Visit) → p n ≡ false → found n (kept p ys) ≡ None
  out-found n [] h = refl
  out-found n (y ∷ ys) h = by (p y.number) refl (out-found n ys h)
    where
      by : (b : Bool) → p y.number ≡ b → found n (kept p ys) ≡ None → found n (cond b (y ∷ kept p ys) (kept p ys)) ≡ None
      by true e f = of (y.number == n) refl
        where
          of : (c : Bool) → (y.number == n) ≡ c → cond c (Some y) (found n (kept p ys)) ≡ None
          of true j = no (sym h ∙ ap p (sym (eqb-true y.number n j)) ∙ e)
          of false j = f
      by false e f = f

  pub touches-same : (reads : List ℕ) → In p reads → (n : ℕ) → touches (kept p all) reads n ≡ touches all reads n
  touches-same reads i n = by (p n) refl
    where
      by : (b : Bool) → p n ≡ b → touches (kept p all) reads n ≡ touches all reads n
      by true e = ap (λ ns. list_any (λ m. has m reads) (n ∷ ns)) (above-same p all whole n e)
      by false e =
          ap (λ o. list_any (λ m. has m reads) (n ∷ above_in o)) (out-found n all e)
          ∙ none-read reads (n ∷ []) i (λ k j. alone k j)
          ∙ sym (none-read reads (n ∷ ancestors_of n all) i (λ k j. above k (k == n) refl j))
        where
          alone : (k : ℕ) → has k (n ∷ []) ≡ true → p k ≡ false
          alone k j = of (k == n) refl j
            where
              of : (c : Bool) → (k == n) ≡ c → (c || false) ≡ true → p k ≡ false
              of true l m = ap p (eqb-true k n l) ∙ e
              of false l m = no m

          up : (k : ℕ) (o : Option Visit) → found n all ≡ o → has k (above_in o) ≡ true → p k ≡ false
          up k None l m = no m
          up k (Some x) l m = each-found (Whole p) n all x whole l k m ∙ ap p (found-number n all x l) ∙ e

          above : (k : ℕ) (c : Bool) → (k == n) ≡ c → (c || has k (ancestors_of n all)) ≡ true → p k ≡ false
          above k true l m = ap p (eqb-true k n l) ∙ e
          above k false l m = up k (found n all) refl m

  any-same : (reads ns : List ℕ) → In p reads → list_any (touches (kept p all) reads) ns ≡ list_any (touches all reads) ns
  any-same reads [] i = refl
  any-same reads (n ∷ ns) i = ap (λ b. b || list_any (touches (kept p all) reads) ns) (touches-same reads i n) ∙ ap (λ b. touches all reads n || b) (any-same reads ns i)

  -- ---- waves

  abbrev Inside : Asking → Type 0
  Inside a = In p a.reads

  follows-same : (changes : Changes) (wave : List Asking) (a : Asking) → Inside a → follows (kept p all) changes wave a ≡ follows all changes wave a
  follows-same changes wave a i =
      ap (λ b. (not (list_any (stands_as a) changes.stood) || b || (is_calculate a.entry && has a.entry.node changes.texts) || list_any (λ n. has n changes.lists) a.looks) || reads_any (kept p all) a (calculated_in wave))
      (any-same a.reads changes.texts i)
      ∙ ap (λ b. is_begun all changes a || b) (any-same a.reads (calculated_in wave) i)

  filter-on : (f g : Asking → Bool) (xs : List Asking) → Each Inside xs → ((a : Asking) → Inside a → f a ≡ g a) → filter f xs ≡ filter g xs
  filter-on f g [] e k = refl
  filter-on f g (x ∷ xs) e k = ap (λ b. cond b (x ∷ filter f xs) (filter f xs)) (k x e.0) ∙ ap (λ l. cond (g x) (x ∷ l) l) (filter-on f g xs e.1 k)

  waves-same : (changes : Changes) (asked : List Asking) → Each Inside asked → (k : ℕ) (wave : List Asking) → waves (kept p all) changes asked k wave ≡ waves all changes asked k wave
  waves-same changes asked i zero wave = refl
  waves-same changes asked i (suc k) wave =
      ap (waves (kept p all) changes asked k) (filter-on (follows (kept p all) changes wave) (follows all changes wave) asked i (follows-same changes wave))
      ∙ waves-same changes asked i k (next_wave all changes asked wave)

  module _ (functions : Functions) (given : Given) (tables : Tables) (model : ℕ) (documents : List Document) (h : HasPlaces p (scope_of functions given tables model) documents) where
    abbrev large : Scope
    large = scope_of functions given tables model

    abbrev S : Scope
    S = scope_with documents large

    abbrev InPart : Entry → Type 0
    InPart e = p e.node ≡ true

    asking-same : (e : Entry) → InPart e → asking S (kept p all) e ≡ asking large all e
    asking-same e i =
        ap (λ r. made r (looks_of S (kept p all) e)) (reads-ok p functions given tables model documents h all whole e i).0
        ∙ ap (made (reads_of large all e)) (looks-ok p functions given tables model documents h all whole e i).0
      where
        made : List ℕ → List ℕ → Asking
        made r l = record { entry = e; is_placed = placed_in (expression_of large e); reads = r; looks = l }

    inside : (entries : List Entry) → Each InPart entries → Each Inside (map (asking large all) entries)
    inside [] i = tt
    inside (e ∷ es) i = ((reads-ok p functions given tables model documents h all whole e i.0).1, inside es i.1)

    pub pertinent-same : (entries : List Entry) (changes : Changes) → Each InPart entries → pertinent S (kept p all) entries changes ≡ pertinent large all entries changes
    pertinent-same entries changes i =
        let own = each-filter InPart is_computed entries i in
        let same : askings S (kept p all) entries ≡ askings large all entries = map-on InPart (asking S (kept p all)) (asking large all) (filter is_computed entries) own asking-same in
        ap (λ l. map (λ (a : Asking). a.entry) (pertinent_of (kept p all) changes l)) same
        ∙ ap (map (λ (a : Asking). a.entry)) (waves-same changes (askings large all entries) (inside (filter is_computed entries) own) (length (askings large all entries)) [])
