-- What a settling of a model's texts leaves of the data: whichever texts were written, they have the same shape, and texts stand in elements.
use Rattle.std.proofs.Common.{◌≡◌, ℕ, ◌==◌, Bool, true, false, not, ◌&&◌, ◌||◌, List, [], ◌∷◌, map, length, refl, sym, ap, ◌∙◌, subst, arith}
use Rattle.std.specs.List.{list_any}
use Rattle.std.proofs.lemmas.List.{length-map}
use Rattle.xf_def_syntax.specs.declared.form.Tables.{Tables}
use Rattle.xf_def_forest.specs.Changes.{in_detached}
use Rattle.xf_def_forest.specs.Forest.{Forest}
use Rattle.xf_def_forest.specs.Needs.{IsSettable}
use Rattle.xf_def_forest.specs.Shape.{shape, shape_of}
use Rattle.xf_def_forest.specs.Visit.{has, visits}
use Rattle.xf_def_forest.specs.WellFormed.{HasTrees}
use Rattle.xf_funcs.specs.Called.{called}
use Rattle.xf_def_xpath.specs.Given.{Given}
use Rattle.xf_def_xpath.proofs.VisitFacts.{no, turned}
use Rattle.xf_def_model.specs.Rules.{Scope}
use Rattle.xf_def_model.specs.Applied.{Entry, all_entries}
use Rattle.xf_def_model.specs.Settled.{bounds, calculates, content_by, settled}
use Rattle.xf_def_model.specs.Pertinent.{AllOf}
use Rattle.xf_law_recalculation.specs.Agree.Hung.{are_hung}
use Rattle.xf_law_recalculation.specs.Agree.InTurn.{AreSingle}
use Rattle.xf_law_recalculation.proofs.AgreeLemmas.FormInTurn.{single}
use Rattle.xf_law_recalculation.proofs.AgreeLemmas.FormSettable.{form_settable}
use Rattle.xf_law_recalculation.proofs.AgreeLemmas.FormSettled.{applied-parts, form_settles}
use Rattle.xf_law_forests.specs.Settle.Written.{AreSettable, MayWrite, are_different, nodes_of, written}
use Rattle.xf_law_forests.proofs.SettleLemmas.MeasureLaws.{all_done}
use Rattle.xf_law_machine.proofs.BehavioursLemmas.WrittenContents.{all-written}
use Rattle.xf_form.specs.declared.loaded.Loaded.{Loaded}
use Rattle.xf_recalc.specs.Settles.{IsLeft, MaySettle, contents_in, scope_in, settled_forest}
use Rattle.xf_engine_state.specs.Settling.{StaysWhole}
use Rattle.xf_engine_state.proofs.Alone.{written-alone}
use Rattle.xf_engine_state.proofs.WholeLaws.{whole-still}
use Rattle.xf_engine_state.proofs.Written.{IsStill, written-still}

-- ---- contents that may be written

module _ (made : Entry → ℕ × List ℕ) (of_made : (e : Entry) → (made e).0 ≡ e.node) where
  are-settable : (forest : Forest) (es : List Entry) → AllOf (λ e. IsSettable e.node forest) es → AreSettable (map made es) forest
  are-settable forest [] h = tt
  are-settable forest (e ∷ es) h = (subst (λ n. IsSettable n forest) (sym (of_made e)) h.0, are-settable forest es h.1)

  not-there : (n : ℕ) (es : List Entry) → list_any (λ f. f.node == n) es ≡ false → has n (nodes_of (map made es)) ≡ false
  not-there n [] h = refl
  not-there n (e ∷ es) h =
      let parts = or-none (e.node == n) (list_any (λ f. f.node == n) es) h in
      ap (λ m. (n == m) || has n (nodes_of (map made es))) (of_made e) ∙ ap (λ c. c || has n (nodes_of (map made es))) (turned n e.node ∙ parts.0) ∙ not-there n es parts.1
    where
      or-none : (a b : Bool) → (a || b) ≡ false → (a ≡ false) × (b ≡ false)
      or-none true b i = no (sym i)
      or-none false b i = (refl, i)

  different : (es : List Entry) → AreSingle es → are_different (nodes_of (map made es)) ≡ true
  different [] h = refl
  different (e ∷ es) h =
      ap (λ n. not (has n (nodes_of (map made es))) && are_different (nodes_of (map made es))) (of_made e)
      ∙ ap (λ c. not c && are_different (nodes_of (map made es))) (not-there e.node es h.0) ∙ different es h.1

module _ (given : Given) (tables : Tables) (model : ℕ) (forest : Forest) (entries : List Entry) (may : MaySettle given tables model forest entries) where
  abbrev scope : Scope
  scope = scope_in given tables model

  abbrev made : Entry → ℕ × List ℕ
  made = content_by bounds scope (settled bounds scope entries (visits forest.nodes))

  are-made : contents_in scope entries forest ≡ map made (calculates entries)
  are-made = form_settles bounds called given tables model forest entries may.covered may.around may.applies may.acyclic

  -- for each calculate there is one
  pub count-is : length (contents_in scope entries forest) ≡ length (calculates entries)
  count-is = ap length are-made ∙ length-map (calculates entries) made

  pub may-write : MayWrite forest.next (contents_in scope entries forest) forest
  may-write =
      let parts = applied-parts bounds called given tables model forest entries may.covered may.around may.applies in
      subst (λ c. MayWrite forest.next c forest) (sym are-made) (record {
        trees = may.around.trees;
        settable = are-settable made (λ e. refl) forest (calculates entries) (form_settable bounds called given tables model forest entries may.covered may.around may.applies);
        different = different made (λ e. refl) (calculates entries)
            (subst (λ xs. AreSingle (calculates xs)) parts.1 (single (shape (visits forest.nodes)) [] (all_entries scope (shape (visits forest.nodes))) parts.0));
        later = omega arith;
      })

  -- ---- what is left

  module _ (l : Loaded) (after : Forest) (trees : HasTrees after) where
    written-whole : (done : ℕ → Bool) → are_hung forest.nodes ≡ true → after.nodes ≡ written done forest.next (contents_in scope entries forest) forest.nodes → StaysWhole l forest after
    written-whole done hung is =
        let still = written-still done forest.next (contents_in scope entries forest) forest may-write hung in
        let here : IsStill (shape_of forest.nodes) after.nodes = record { shaped = ap shape_of is ∙ still.shaped; hung = ap are_hung is ∙ still.hung } in
        record {
          whole = λ table flags built w. whole-still l forest after may.around.trees trees hung here table flags built w;
          shape = here.shaped;
          alone = λ none. ap in_detached is ∙ written-alone done forest.next (contents_in scope entries forest) forest.nodes none;
        }

    pub left-whole : are_hung forest.nodes ≡ true → IsLeft scope entries forest after → StaysWhole l forest after
    left-whole hung left = written-whole left.done hung left.nodes

    pub settled-whole : are_hung forest.nodes ≡ true → after ≡ settled_forest scope entries forest → StaysWhole l forest after
    settled-whole hung is = written-whole all_done hung (ap (λ f. f.nodes) is ∙ sym (all-written forest.next (contents_in scope entries forest) forest.nodes))
