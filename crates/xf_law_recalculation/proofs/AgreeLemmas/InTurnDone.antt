-- Where some calculated nodes have their settled contents, and the others none, the next calculate has the text that it has in the end.
use Rattle.std.proofs.Common.{◌≡◌, ℕ, ◌==◌, Bool, true, false, cond, List, [], ◌∷◌, ◌++◌, find, Some, None, option_map, refl, sym, ap, ◌∙◌, subst, inl, inr}
use Rattle.std.specs.Prelude.{filter}
use Rattle.std.specs.List.{list_any}
use Rattle.std.proofs.lemmas.Bool.{cases_Bool, eqb-true, eq-eqb}
use Rattle.xf_def_forest.specs.Forest.{Forest}
use Rattle.xf_def_forest.specs.Visit.{Visit, visits}
use Rattle.xf_def_forest.specs.Shape.{shape}
use Rattle.xf_graph.proofs.Laws.{IsAcyclic-from_order}
use Rattle.xf_def_xpath.proofs.VisitFacts.{no}
use Rattle.xf_def_model.specs.Rules.{Scope}
use Rattle.xf_def_model.specs.Applied.{Entry}
use Rattle.xf_def_model.specs.Entries.{text_of, value_of}
use Rattle.xf_def_model.specs.Circular.{calculated, graph_over}
use Rattle.xf_def_model.specs.Settled.{Bounds, Contents, content_of, holding, calculates, content_by, settled_contents, settled, fitting}
use Rattle.xf_def_model.specs.Pertinent.{AllOf}
use Rattle.xf_def_model.specs.Stands.{IsSettled, AreCalculated, AgreeFor}
use Rattle.xf_def_model.proofs.EachLemmas.{each_then, each_one}
use Rattle.xf_def_model.proofs.CircularLemmas.{StandsAt, within-graph}
use Rattle.xf_def_model.proofs.RoundLaws.{round-calculated}
use Rattle.xf_law_recalculation.specs.Agree.InTurn.{AreInTurn, InTurnDone, InTurnValue, InTurnContent, InTurnStands}
use Rattle.xf_law_recalculation.specs.Agree.Settles.{IsStatic}
use Rattle.xf_law_recalculation.proofs.AgreeLemmas.TurnLists.{all-append, all-later, each-stands, none-any, each-none, only-one, find-only}
use Rattle.xf_law_recalculation.proofs.AgreeLemmas.SettledStatic.{one-value, settles}
use Rattle.xf_law_recalculation.proofs.AgreeLemmas.InTurnLimits.{any-stands}
use Rattle.xf_law_recalculation.proofs.AgreeLemmas.InTurnLaws.{AreReadBack, untouched, back, back-later, Agreeing, agreeing, each-in_turn, stands-in_turn}

-- ---- contents of some nodes

module _ (done : ℕ → Bool) where
  abbrev some_of : Contents → Contents
  some_of contents = filter (λ (p : ℕ × List ℕ). done p.0) contents

  -- a node that is done has its content among these
  some-done : (n : ℕ) → done n ≡ true → (contents : Contents) → content_of (some_of contents) n ≡ content_of contents n
  some-done n h contents = ap (option_map (λ (p : ℕ × List ℕ). p.1)) (by contents)
    where
      at : (p : ℕ × List ℕ) (ps : Contents) (c d : Bool) → (p.0 == n) ≡ c → done p.0 ≡ d → find (λ q. q.0 == n) (filter (λ q. done q.0) ps) ≡ find (λ q. q.0 == n) ps →
          find (λ q. q.0 == n) (cond d (p ∷ filter (λ q. done q.0) ps) (filter (λ q. done q.0) ps)) ≡ cond c (Some p) (find (λ q. q.0 == n) ps)
      at p ps true true e i rest = ap (λ b. cond b (Some p) (find (λ q. q.0 == n) (filter (λ q. done q.0) ps))) e
      at p ps true false e i rest = no (sym i ∙ ap done (eqb-true p.0 n e) ∙ h)
      at p ps false true e i rest = ap (λ b. cond b (Some p) (find (λ q. q.0 == n) (filter (λ q. done q.0) ps))) e ∙ rest
      at p ps false false e i rest = rest

      by : (ps : Contents) → find (λ q. q.0 == n) (filter (λ q. done q.0) ps) ≡ find (λ q. q.0 == n) ps
      by [] = refl
      by (p ∷ ps) = at p ps (p.0 == n) (done p.0) refl refl (by ps)

  -- a node without a content has none among these
  some-none : (n : ℕ) (contents : Contents) → content_of contents n ≡ None → content_of (some_of contents) n ≡ None
  some-none n [] h = refl
  some-none n (p ∷ ps) h = by (p.0 == n) refl (done p.0) h (some-none n ps)
    where
      by : (c : Bool) → (p.0 == n) ≡ c → (d : Bool) → option_map (λ (q : ℕ × List ℕ). q.1) (cond c (Some p) (find (λ q. q.0 == n) ps)) ≡ None → (content_of ps n ≡ None → content_of (some_of ps) n ≡ None) →
          content_of (cond d (p ∷ some_of ps) (some_of ps)) n ≡ None
      by true e d i rest = cc i
      by false e true i rest = ap (λ b. option_map (λ (q : ℕ × List ℕ). q.1) (cond b (Some p) (find (λ q. q.0 == n) (some_of ps)))) e ∙ rest i
      by false e false i rest = rest i

-- ---- the calculates in turn

module _ (b : Bounds) (scope : Scope) (entries : List Entry) (forest : Forest) (es : List Entry) (t : AreInTurn b scope entries forest es) where
  abbrev all : List Visit
  all = visits forest.nodes

  abbrev ends : Contents
  ends = settled_contents b scope entries all

  pub stand : IsSettled b scope entries all ends
  stand = settles b scope entries forest t.around t.static t.standing
      (IsAcyclic-from_order (graph_over scope (shape all) entries) (within-graph (shape all) (calculated scope (shape all) entries)) t.ordered.places t.ordered.order)

  ends-calculated : AreCalculated entries ends
  ends-calculated = subst (AreCalculated entries) (sym stand) (round-calculated b scope entries all ends)

  there : (k : ℕ) → list_any (λ x. x.node == k) (calculates entries) ≡ true → list_any (λ x. x.node == k) es ≡ true
  there k some =
      let f = each_one (λ (x : Entry). (j : ℕ) × StandsAt (calculates entries) j x) (λ (x : Entry). x.node == k) (calculates entries) (each-stands (calculates entries)) some in
      let s = stands-in_turn b scope entries forest es t f.2.0 f.0 f.2.1 in
      any-stands (λ (x : Entry). x.node == k) es s.0 f.0 s.1 f.1

  none-calculated : (k : ℕ) → list_any (λ x. x.node == k) es ≡ false → list_any (λ x. x.node == k) (calculates entries) ≡ false
  none-calculated k i = elim (cases_Bool (list_any (λ (x : Entry). x.node == k) (calculates entries))) [ inl some ↦ no (sym i ∙ there k some) | inr none ↦ none ]

  some-calculated : (done : ℕ → Bool) → AreCalculated entries (some_of done ends)
  some-calculated done n none = some-none done n ends (ends-calculated n none)

  -- what the next one reads is done, or not calculated
  agree-done : (before after : List Entry) (e : Entry) → es ≡ before ++ e ∷ after → (done : ℕ → Bool) → AllOf (λ f. done f.node ≡ true) before → AgreeFor scope all e (some_of done ends) ends
  agree-done before after e split done h =
      let reads = (back-later b scope all before (e ∷ after) (subst (AreReadBack b scope all) split (back b scope entries forest es t))).0 in
      λ n touched. same n (untouched b scope all e (e ∷ after) reads n touched)
    where
      -- a node of no entry to come is done, or not calculated
      same : (n : ℕ) → list_any (λ x. x.node == n) (e ∷ after) ≡ false → content_of (some_of done ends) n ≡ content_of ends n
      same n off = elim (cases_Bool (list_any (λ (x : Entry). x.node == n) before)) [
        | inl some ↦
            let f = each_one (λ (x : Entry). done x.node ≡ true) (λ (x : Entry). x.node == n) before h some in
            some-done done n (ap done (sym (eqb-true f.0.node n f.1)) ∙ f.2) ends
        | inr none ↦
            let nowhere : AllOf (λ (x : Entry). (x.node == n) ≡ false) es =
            subst (AllOf (λ (x : Entry). (x.node == n) ≡ false)) (sym split)
            (all-append (λ (x : Entry). (x.node == n) ≡ false) before (e ∷ after) (each-none (λ (x : Entry). x.node == n) before none) (each-none (λ (x : Entry). x.node == n) (e ∷ after) off)) in
            let gone : content_of ends n ≡ None = ends-calculated n (none-calculated n (none-any (λ (x : Entry). x.node == n) es nowhere)) in
            some-none done n ends gone ∙ sym gone
      ]

  text-done : (before after : List Entry) (e : Entry) → es ≡ before ++ e ∷ after → (done : ℕ → Bool) → AllOf (λ f. done f.node ≡ true) before →
      text_of (Some b.string) scope (holding all (some_of done ends)) e ≡ text_of (Some b.string) scope (settled b scope entries all) e
  text-done before after e split done h =
      let agree = (all-later (Agreeing b scope entries forest es t) before (e ∷ after) (subst (AllOf (Agreeing b scope entries forest es t)) split (agreeing b scope entries forest es t))).0 in
      agree (some_of done ends) ends (some-calculated done) ends-calculated (agree-done before after e split done h)

  value-done : (before after : List Entry) (e : Entry) → es ≡ before ++ e ∷ after → (done : ℕ → Bool) → AllOf (λ f. done f.node ≡ true) before →
      value_of (Some b.string) scope (holding all (some_of done ends)) e ≡ value_of (Some b.string) scope (settled b scope entries all) e
  value-done before after e split done h =
      let each = each-in_turn b scope entries forest es t (IsStatic scope forest) t.static in
      let static = (all-later (IsStatic scope forest) before (e ∷ after) (subst (AllOf (IsStatic scope forest)) split each)).0 in
      one-value b scope entries forest t.around t.static e static (some_of done ends) ends (some-calculated done) ends-calculated (agree-done before after e split done h)

  -- of the one calculate at a node
  content-at : AllOf (λ e. content_of ends e.node ≡ Some (fitting b.limits.text (text_of (Some b.string) scope (settled b scope entries all) e))) es
  content-at = each-in_turn b scope entries forest es t (λ e. content_of ends e.node ≡ Some (fitting b.limits.text (text_of (Some b.string) scope (settled b scope entries all) e)))
      (each_then (λ (e : Entry). (k : ℕ) × StandsAt (calculates entries) k e) _ (λ e s.
      ap (λ c. content_of c e.node) stand
      ∙ ap (option_map (λ (p : ℕ × List ℕ). p.1)) (find-only (content_by b scope (settled b scope entries all)) (λ f. refl) e.node (calculates entries) s.0 e (eq-eqb e.node e.node refl) s.1 (only-one (calculates entries) t.single s.0 e s.1)))
      (calculates entries) (each-stands (calculates entries)))

pub in_turn_stands : InTurnStands
in_turn_stands b scope entries forest es t = stand b scope entries forest es t

pub in_turn_done : InTurnDone
in_turn_done b scope entries forest es t before after e split done h later = text-done b scope entries forest es t before after e split done h

pub in_turn_value : InTurnValue
in_turn_value b scope entries forest es t before after e split done h later = value-done b scope entries forest es t before after e split done h

pub in_turn_content : InTurnContent
in_turn_content b scope entries forest es t = content-at b scope entries forest es t
