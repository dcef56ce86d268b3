-- Which calculates are pertinent, by their nodes: what may be written can be set, and is the node of none that is passed over.
use Rattle.std.proofs.Common.{◌≡◌, ℕ, ◌==◌, Bool, true, false, cond, ◌||◌, List, [], ◌∷◌, map, refl, sym, ap, ◌∙◌, subst, inl, inr, arith}
use Rattle.std.specs.Prelude.{filter}
use Rattle.std.proofs.lemmas.Bool.{eqb-true}
use Rattle.std.proofs.lemmas.Bool.Decides.{nat_tests}
use Rattle.xf_def_syntax.specs.declared.form.Tables.{Tables}
use Rattle.xf_def_forest.specs.Forest.{Forest}
use Rattle.xf_def_forest.specs.Needs.{IsSettable}
use Rattle.xf_def_forest.specs.Visit.{Visit, has}
use Rattle.xf_def_forest.proofs.BackLaws.{and-true}
use Rattle.xf_def_values.specs.Functions.{Functions}
use Rattle.xf_def_xpath.specs.Given.{Given}
use Rattle.xf_def_xpath.proofs.VisitFacts.{no, self-same, or-cases, or-left, or-right}
use Rattle.xf_def_model.specs.Rules.{Scope, scope_of}
use Rattle.xf_def_model.specs.Applied.{Entry, is_calculate, is_property, place_of, sets_same}
use Rattle.xf_def_model.specs.Entries.{is_computed}
use Rattle.xf_def_model.specs.Settled.{Bounds, calculates}
use Rattle.xf_def_model.specs.Pertinent.{Changes, Asking, AllOf, asking, askings, calculated_in, follows, pertinent_of, is_same, stands_as}
use Rattle.xf_def_model.proofs.CircularLemmas.{StandsAt}
use Rattle.xf_def_model.proofs.EachLemmas.{each_then}
use Rattle.xf_def_model.proofs.PertinentLaws.{pertinent-stands}
use Rattle.xf_law_recalculation.proofs.AgreeLemmas.TurnLists.{each-stands, only-one}
use Rattle.xf_law_recalculation.specs.Marks.Outside.{shape_now, IsOutside}
use Rattle.xf_law_recalculation.specs.Since.Since.{IsDue}
use Rattle.xf_law_recalculation.specs.Since.Pertinent.{is_written}
use Rattle.xf_law_recalculation.proofs.SinceLemmas.Contents.{each-settable, are-single}

-- ---- calculates that pass a test

calculated-of : (scope : Scope) (all : List Visit) (F : Asking → Bool) (P : Entry → Type 0) (es : List Entry) → AllOf P (calculates es) → (n : ℕ) →
    has n (calculated_in (filter F (map (asking scope all) (filter is_computed es)))) ≡ true → (e : Entry) × P e × (F (asking scope all e) ≡ true) × (e.node ≡ n)
calculated-of scope all F P [] h n i = no i
calculated-of scope all F P (e ∷ es) h n i =
    by (is_computed e) (is_calculate e) refl (F (asking scope all e)) refl h i (λ p j. calculated-of scope all F P es p n j)
  where
    Rest : List Asking
    Rest = filter F (map (asking scope all) (filter is_computed es))

    Result : Type 0
    Result = (g : Entry) × P g × (F (asking scope all g) ≡ true) × (g.node ≡ n)

    tail : (k : Bool) → AllOf P (cond k (e ∷ calculates es) (calculates es)) → AllOf P (calculates es)
    tail true p = p.1
    tail false p = p

    by : (c k : Bool) → is_calculate e ≡ k → (g : Bool) → F (asking scope all e) ≡ g → AllOf P (cond k (e ∷ calculates es) (calculates es)) →
        has n (calculated_in (filter F (map (asking scope all) (cond c (e ∷ filter is_computed es) (filter is_computed es))))) ≡ true →
        (AllOf P (calculates es) → has n (calculated_in Rest) ≡ true → Result) → Result
    by false k q g r p j later = later (tail k p) j
    by true k q false r p j later = later (tail k p) (ap (λ b. has n (calculated_in (cond b (asking scope all e ∷ Rest) Rest))) (sym r) ∙ j)
    by true false q true r p j later =
        later p (ap (λ b. has n (map (λ (a : Asking). a.entry.node) (cond b (asking scope all e ∷ filter (λ a. is_calculate a.entry) Rest) (filter (λ a. is_calculate a.entry) Rest)))) (sym q)
        ∙ ap (λ b. has n (calculated_in (cond b (asking scope all e ∷ Rest) Rest))) (sym r) ∙ j)
    by true true q true r p j later =
        let here : ((n == e.node) || has n (calculated_in Rest)) ≡ true =
        ap (λ b. has n (map (λ (a : Asking). a.entry.node) (cond b (asking scope all e ∷ filter (λ a. is_calculate a.entry) Rest) (filter (λ a. is_calculate a.entry) Rest)))) (sym q)
        ∙ ap (λ b. has n (calculated_in (cond b (asking scope all e ∷ Rest) Rest))) (sym r) ∙ j in
        elim (or-cases (n == e.node) (has n (calculated_in Rest)) here) [
          | inl same ↦ (e, p.0, r, sym (eqb-true n e.node same))
          | inr rest ↦ later p.1 rest
        ]

pub all-has : (P : ℕ → Type 0) (ns : List ℕ) → ((n : ℕ) → has n ns ≡ true → P n) → AllOf P ns
all-has P [] h = tt
all-has P (n ∷ ns) h = (h n (or-left (n == n) (has n ns) (self-same n)), all-has P ns (λ k i. h k (or-right (k == n) (has k ns) i)))

module _ (b : Bounds) (functions : Functions) (given : Given) (tables : Tables) (model : ℕ) (now : Forest) (entries : List Entry) (due : IsDue b functions given tables model now entries) (changes : Changes) where
  abbrev scope : Scope
  scope = scope_of functions given tables model

  abbrev sh : List Visit
  sh = shape_now now

  abbrev asked : List Asking
  asked = askings scope sh entries

  abbrev writes : ℕ → Bool
  writes n = is_written functions given tables model now entries changes n

  written-of : (P : Entry → Type 0) → AllOf P (calculates entries) → (n : ℕ) → writes n ≡ true → (e : Entry) × P e × (follows sh changes (pertinent_of sh changes asked) (asking scope sh e) ≡ true) × (e.node ≡ n)
  written-of P h n i = calculated-of scope sh (follows sh changes (pertinent_of sh changes asked)) P entries h n (ap (λ wave. has n (calculated_in wave)) (sym (pertinent-stands sh changes asked)) ∙ i)

  pub written-able : (n : ℕ) → writes n ≡ true → IsSettable n now
  written-able n i = let r = written-of (λ e. IsSettable e.node now) (each-settable b functions given tables model now entries due) n i in subst (λ k. IsSettable k now) r.3 r.1

  pub outside-unwritten : AllOf (λ e. IsOutside scope now changes entries e → writes e.node ≡ false) (calculates entries)
  outside-unwritten = each_then (λ e. (k : ℕ) × StandsAt (calculates entries) k e) _ (λ e s out. off (writes e.node) (λ i.
      let r = written-of (λ g. (g.node == e.node) ≡ true → g ≡ e) (only-one (calculates entries) (are-single b functions given tables model now entries due) s.0 e s.1) e.node i in
      let same : r.0 ≡ e = r.1 (ap (λ k. k == e.node) r.3 ∙ self-same e.node) in
      sym out ∙ ap (λ g. follows sh changes (pertinent_of sh changes asked) (asking scope sh g)) (sym same) ∙ r.2)) (calculates entries) (each-stands (calculates entries))
    where
      off : (c : Bool) → (c ≡ true → false ≡ true) → c ≡ false
      off true h = sym (h refl)
      off false h = refl

-- ---- lists

pub each-calculate : (es : List Entry) → AllOf (λ e. is_calculate e ≡ true) (calculates es)
each-calculate [] = tt
each-calculate (e ∷ es) = by (is_calculate e) refl (each-calculate es)
  where
    by : (c : Bool) → is_calculate e ≡ c → AllOf (λ g. is_calculate g ≡ true) (calculates es) → AllOf (λ g. is_calculate g ≡ true) (cond c (e ∷ calculates es) (calculates es))
    by true q rest = (q, rest)
    by false q rest = rest

pub each-calculated : (P : Entry → Type 0) (es : List Entry) → AllOf P es → AllOf P (calculates es)
each-calculated P [] h = tt
each-calculated P (e ∷ es) h = by (is_calculate e) (each-calculated P es h.1)
  where
    by : (c : Bool) → AllOf P (calculates es) → AllOf P (cond c (e ∷ calculates es) (calculates es))
    by true rest = (h.0, rest)
    by false rest = rest

-- ---- an entry and the one that it was

pub same-node : (a : Asking) (old : Entry) → stands_as a old ≡ true → a.entry.node ≡ old.node
same-node a old h = eqb-true a.entry.node old.node (and-true (a.entry.node == old.node) _ (and-true (sets_same a.entry old) _ (and-true (is_same a.entry old) _ h).0).0).0

pub same-calculate : (a : Asking) (old : Entry) → stands_as a old ≡ true → is_calculate a.entry ≡ true → is_calculate old ≡ true
same-calculate a old h i =
    let p = (and-true (a.entry.node == old.node) (is_property a.entry.property old.property) (and-true (sets_same a.entry old) (a.entry.bind == old.bind) (and-true (is_same a.entry old) _ h).0).0).1 in
    let same : place_of a.entry.property ≡ place_of old.property = eqb-true (place_of a.entry.property) (place_of old.property) p in
    ap (λ k. k == 1) (sym same) ∙ i

-- ---- and what is pertinent is written

computed-too : (e : Entry) → is_calculate e ≡ true → is_computed e ≡ true
computed-too e h = grind (arith, nat_tests, h)

more-there : (scope : Scope) (all : List Visit) (F : Asking → Bool) (e : Entry) (es : List Entry) (n : ℕ) → has n (calculated_in (filter F (map (asking scope all) (filter is_computed es)))) ≡ true →
    has n (calculated_in (filter F (map (asking scope all) (filter is_computed (e ∷ es))))) ≡ true
more-there scope all F e es n h = by (is_computed e) (F (asking scope all e)) refl (is_calculate e)
  where
    Rest : List Asking
    Rest = filter F (map (asking scope all) (filter is_computed es))

    inner : (k : Bool) → has n (map (λ (a : Asking). a.entry.node) (cond k (asking scope all e ∷ filter (λ a. is_calculate a.entry) Rest) (filter (λ a. is_calculate a.entry) Rest))) ≡ true
    inner true = or-right (n == e.node) (has n (calculated_in Rest)) h
    inner false = h

    by : (c g : Bool) → F (asking scope all e) ≡ g → (k : Bool) → has n (calculated_in (filter F (map (asking scope all) (cond c (e ∷ filter is_computed es) (filter is_computed es))))) ≡ true
    by false g r k = h
    by true true r k = ap (λ q. has n (calculated_in (cond q (asking scope all e ∷ Rest) Rest))) r ∙ inner (is_calculate e)
    by true false r k = ap (λ q. has n (calculated_in (cond q (asking scope all e ∷ Rest) Rest))) r ∙ h

written-there : (scope : Scope) (all : List Visit) (F : Asking → Bool) (es : List Entry) →
    AllOf (λ e. F (asking scope all e) ≡ true → has e.node (calculated_in (filter F (map (asking scope all) (filter is_computed es)))) ≡ true) (calculates es)
written-there _ _ _ [] = tt
written-there scope all F (e ∷ es) =
    by (is_calculate e) refl (each_then _ _ (λ g h i. more-there scope all F e es g.node (h i)) (calculates es) (written-there scope all F es))
  where
    Rest : List Asking
    Rest = filter F (map (asking scope all) (filter is_computed es))

    Goal : Entry → Type 0
    Goal g = F (asking scope all g) ≡ true → has g.node (calculated_in (filter F (map (asking scope all) (filter is_computed (e ∷ es))))) ≡ true

    here : is_calculate e ≡ true → Goal e
    here q r =
        ap (λ c. has e.node (calculated_in (filter F (map (asking scope all) (cond c (e ∷ filter is_computed es) (filter is_computed es)))))) (computed-too e q)
        ∙ ap (λ c. has e.node (calculated_in (cond c (asking scope all e ∷ Rest) Rest))) r
        ∙ ap (λ c. has e.node (map (λ (a : Asking). a.entry.node) (cond c (asking scope all e ∷ filter (λ a. is_calculate a.entry) Rest) (filter (λ a. is_calculate a.entry) Rest)))) q
        ∙ or-left (e.node == e.node) (has e.node (calculated_in Rest)) (self-same e.node)

    by : (c : Bool) → is_calculate e ≡ c → AllOf Goal (calculates es) → AllOf Goal (cond c (e ∷ calculates es) (calculates es))
    by true q rest = (here q, rest)
    by false q rest = rest

module _ (functions : Functions) (given : Given) (tables : Tables) (model : ℕ) (now : Forest) (entries : List Entry) (changes : Changes) where
  -- a calculate that is not written is passed over
  pub unwritten-outside : AllOf (λ e. is_written functions given tables model now entries changes e.node ≡ false → IsOutside (scope_of functions given tables model) now changes entries e) (calculates entries)
  unwritten-outside =
      let s = scope_of functions given tables model in
      let sh = shape_now now in
      let asked = askings s sh entries in
      each_then _ _ (λ e there unwritten. off (follows sh changes (pertinent_of sh changes asked) (asking s sh e)) (λ i.
      sym unwritten ∙ ap (λ wave. has e.node (calculated_in wave)) (pertinent-stands sh changes asked) ∙ there i)) (calculates entries)
      (written-there s sh (follows sh changes (pertinent_of sh changes asked)) entries)
    where
      off : (c : Bool) → (c ≡ true → false ≡ true) → c ≡ false
      off true h = sym (h refl)
      off false h = refl
