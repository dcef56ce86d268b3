-- What is evaluated over the nodes where some contents were written is what is evaluated over the data that hold them.
use Rattle.std.proofs.Common.{◌≡◌, ℕ, ◌+◌, ◌≤◌, ◌^◌, ◌==◌, Bool, true, false, not, ◌&&◌, ◌||◌, List, [], ◌∷◌, ◌++◌, map, length, Some, option_map, refl, sym, ap, ◌∙◌, subst, arith}
use Rattle.std.specs.Prelude.{filter}
use Rattle.std.specs.List.{list_any}
use Rattle.std.proofs.lemmas.List.{length-map}
use Rattle.xf_def_syntax.specs.declared.form.Tables.{Tables}
use Rattle.xf_def_forest.specs.Forest.{Forest}
use Rattle.xf_def_forest.specs.Needs.{IsSettable}
use Rattle.xf_def_forest.specs.Visit.{Visit, has, visits}
use Rattle.xf_def_values.specs.Functions.{Functions}
use Rattle.xf_def_xpath.specs.Given.{Document, Given}
use Rattle.xf_def_xpath.specs.Conversions.{truth_of}
use Rattle.xf_def_xpath.specs.Same.{renumbered_given}
use Rattle.xf_def_xpath.proofs.VisitFacts.{no, turned}
use Rattle.xf_def_model.specs.Rules.{Scope, scope_of}
use Rattle.xf_def_model.specs.Applied.{Entry}
use Rattle.xf_def_model.specs.Entries.{text_of, value_of}
use Rattle.xf_def_model.specs.Settled.{Bounds, Contents, holding, calculates, content_by, settled_contents, settled, passed_over, passed}
use Rattle.xf_def_model.specs.Pertinent.{AllOf}
use Rattle.xf_def_model.proofs.EachLemmas.{each_then}
use Rattle.xf_law_forests.specs.Settle.Written.{written, nodes_of, are_different, AreSettable, MayWrite}
use Rattle.xf_law_forests.specs.Settle.Alike.{AreAlike}
use Rattle.xf_law_forests.proofs.SettleLemmas.AlikeLaws.{written-alike}
use Rattle.xf_law_recalculation.specs.Agree.Settles.{IsSolid}
use Rattle.xf_law_recalculation.specs.Agree.InTurn.{AreSingle, AreInTurn}
use Rattle.xf_law_recalculation.specs.Agree.Evaluated as evaluated
use Rattle.xf_law_recalculation.proofs.AgreeLemmas.TurnLists.{all-later}
use Rattle.xf_law_recalculation.proofs.AgreeLemmas.EvaluatedLaws.{evaluated_text, evaluated_truth, evaluated_passed, surroundings_stay, solid_numbers}
use Rattle.xf_law_recalculation.proofs.AgreeLemmas.FormInTurn.{form_in_turn}
use Rattle.xf_law_recalculation.proofs.AgreeLemmas.FormSettable.{form_settable, entries_solid}
use Rattle.xf_law_recalculation.proofs.AgreeLemmas.InTurnLaws.{each-in_turn}
use Rattle.xf_law_recalculation.proofs.AgreeLemmas.InTurnDone.{stand, in_turn_done, in_turn_value, in_turn_content}
use Rattle.xf_law_recalculation.specs.Written.Turn.{AreTurned, TurnWrites, TurnText, TurnTruth, TurnContent, TurnPassed}

-- ---- contents that may be written

module _ (made : Entry → ℕ × List ℕ) (of_made : (e : Entry) → (made e).0 ≡ e.node) where
  are-settable : (forest : Forest) (es : List Entry) → AllOf (λ e. IsSettable e.node forest) es → AreSettable (map made es) forest
  are-settable forest [] h = tt
  are-settable forest (e ∷ es) h = (subst (λ n. IsSettable n forest) (sym (of_made e)) h.0, are-settable forest es h.1)

  not-there : (n : ℕ) (es : List Entry) → list_any (λ f. f.node == n) es ≡ false → has n (nodes_of (map made es)) ≡ false
  not-there n [] h = refl
  not-there n (e ∷ es) h = let parts = or-none (e.node == n) (list_any (λ f. f.node == n) es) h in
      ap (λ m. (n == m) || has n (nodes_of (map made es))) (of_made e) ∙ ap (λ c. c || has n (nodes_of (map made es))) (turned n e.node ∙ parts.0) ∙ not-there n es parts.1
    where
      or-none : (a b : Bool) → (a || b) ≡ false → (a ≡ false) × (b ≡ false)
      or-none true b i = no (sym i)
      or-none false b i = (refl, i)

  different : (es : List Entry) → AreSingle es → are_different (nodes_of (map made es)) ≡ true
  different [] h = refl
  different (e ∷ es) h =
      ap (λ n. not (has n (nodes_of (map made es))) && are_different (nodes_of (map made es))) (of_made e)
      ∙ ap (λ c. not c && are_different (nodes_of (map made es))) (not-there e.node es h.0) ∙ different es h.1

pub all-kept : (contents : Contents) → filter (λ p. true) contents ≡ contents
all-kept [] = refl
all-kept (p ∷ ps) = ap (λ l. p ∷ l) (all-kept ps)

module _ (b : Bounds) (functions : Functions) (given : Given) (tables : Tables) (model : ℕ) (forest : Forest) (entries es : List Entry)
    (t : AreTurned b functions given tables model forest entries es) where
  abbrev scope : Scope
  scope = scope_of functions given tables model

  abbrev all : List Visit
  all = visits forest.nodes

  abbrev contents : Contents
  contents = settled_contents b scope entries all

  pub turn : AreInTurn b scope entries forest es
  turn = form_in_turn b functions given tables model forest entries es t.covered t.around t.applies t.ordered

  abbrev made : Contents
  made = map (content_by b scope (settled b scope entries all)) (calculates entries)

  are-made : contents ≡ made
  are-made = stand b scope entries forest es turn

  may : MayWrite forest.next contents forest
  may = subst (λ c. MayWrite forest.next c forest) (sym are-made) (record {
    trees = t.around.trees;
    settable = are-settable (content_by b scope (settled b scope entries all)) (λ e. refl) forest (calculates entries)
        (form_settable b functions given tables model forest entries t.covered t.around t.applies);
    different = different (content_by b scope (settled b scope entries all)) (λ e. refl) (calculates entries) turn.single;
    later = omega arith;
  })

  pub room : forest.next + length contents ≤ 2 ^ 128
  room = let same : length contents ≡ length (calculates entries) = ap length are-made ∙ length-map (calculates entries) (content_by b scope (settled b scope entries all)) in let fits = t.room in omega (arith, same, fits)

  module _ (done : ℕ → Bool) where
    abbrev now : List Visit
    now = visits (written done forest.next contents forest.nodes)

    abbrev held : List Visit
    held = holding all (filter (λ (p : ℕ × List ℕ). done p.0) contents)

    alike : AreAlike forest.next forest.nodes held now
    alike = written-alike done forest.next contents forest may room

    stays : (n : ℕ) → IsSolid all n → alike.by n ≡ n
    stays n s = let k = solid_numbers forest n t.around.trees s in alike.stays n k.0 k.1

    surroundings : renumbered_given alike.by given ≡ given
    surroundings = surroundings_stay alike.by given (each_then (λ (d : Document). IsSolid all d.element) (λ (d : Document). alike.by d.element ≡ d.element) (λ d s. stays d.element s) given.documents t.documents) t.no_event

    alike-for : (e : Entry) → IsSolid all e.node → evaluated.AreAlike given held now e
    alike-for e s = record { by = alike.by; renumbers = alike.renumbers; visits = alike.visits; surroundings = surroundings; node = stays e.node s }

    pub same-text : (e : Entry) → IsSolid all e.node → text_of (Some b.string) scope held e ≡ text_of (Some b.string) scope now e
    same-text e s = evaluated_text (Some b.string) functions given tables model held now e (alike-for e s)

    same-truth : (e : Entry) → IsSolid all e.node → option_map truth_of (value_of (Some b.string) scope held e) ≡ option_map truth_of (value_of (Some b.string) scope now e)
    same-truth e s = evaluated_truth (Some b.string) functions given tables model held now e (alike-for e s)

    same-passed : passed_over b scope entries held ≡ passed_over b scope entries now
    same-passed = evaluated_passed b functions given tables model held now entries alike.by alike.renumbers alike.visits surroundings
        (each_then (λ e. IsSolid all e.node) (λ e. alike.by e.node ≡ e.node) (λ e s. stays e.node s) entries (entries_solid b functions given tables model forest entries t.covered t.around t.applies))

  abbrev Here : Entry → Type 0
  Here e = IsSolid all e.node

  each-here : AllOf Here es
  each-here = each-in_turn b scope entries forest es turn Here (each_then _ Here (λ e s. s.node) (calculates entries) turn.static)

  here-at : (before after : List Entry) (e : Entry) → es ≡ before ++ e ∷ after → Here e
  here-at before after e split = (all-later Here before (e ∷ after) (subst (AllOf Here) split each-here)).0

  text-turned : (before after : List Entry) (e : Entry) → es ≡ before ++ e ∷ after → (done : ℕ → Bool) → AllOf (λ f. done f.node ≡ true) before → AllOf (λ f. done f.node ≡ false) (e ∷ after) →
      text_of (Some b.string) scope (now done) e ≡ text_of (Some b.string) scope (settled b scope entries all) e
  text-turned before after e split done h later =
      sym (same-text done e (here-at before after e split)) ∙ in_turn_done b scope entries forest es turn before after e split done h later

  truth-turned : (before after : List Entry) (e : Entry) → es ≡ before ++ e ∷ after → (done : ℕ → Bool) → AllOf (λ f. done f.node ≡ true) before → AllOf (λ f. done f.node ≡ false) (e ∷ after) →
      option_map truth_of (value_of (Some b.string) scope (now done) e) ≡ option_map truth_of (value_of (Some b.string) scope (now (λ n. true)) e)
  truth-turned before after e split done h later =
      sym (same-truth done e (here-at before after e split))
      ∙ ap (option_map truth_of) (in_turn_value b scope entries forest es turn before after e split done h later)
      ∙ ap (λ c. option_map truth_of (value_of (Some b.string) scope (holding all c) e)) (sym (all-kept contents))
      ∙ same-truth (λ n. true) e (here-at before after e split)

  passed-turned : passed_over b scope entries (now (λ n. true)) ≡ passed b scope entries all
  passed-turned = sym (same-passed (λ n. true)) ∙ ap (λ c. passed_over b scope entries (holding all c)) (all-kept contents)

pub turn_writes : TurnWrites
turn_writes b functions given tables model forest entries es t = may b functions given tables model forest entries es t

pub turn_text : TurnText
turn_text b functions given tables model forest entries es t before after e split done h later = text-turned b functions given tables model forest entries es t before after e split done h later

pub turn_truth : TurnTruth
turn_truth b functions given tables model forest entries es t before after e split done h later = truth-turned b functions given tables model forest entries es t before after e split done h later

pub turn_content : TurnContent
turn_content b functions given tables model forest entries es t = in_turn_content b (scope_of functions given tables model) entries forest es (turn b functions given tables model forest entries es t)

pub turn_passed : TurnPassed
turn_passed b functions given tables model forest entries es t = passed-turned b functions given tables model forest entries es t
