-- Of one form, states at rest with the same data keep the same beside them.
use Rattle.std.proofs.Common.{◌≡◌, ℕ, zero, suc, ◌+◌, Bool, true, false, not, ◌&&◌, ◌||◌, List, [], ◌∷◌, map, filter, length, get_or, Result, Ok, refl, sym, ap, ◌∙◌, subst, arith}
use Rattle.std.specs.List.{list_any}
use Rattle.xf_def_forest.specs.Same.{IsRenumbering, KeepsTexts, renumbered, renumbered_visit}
use Rattle.xf_def_forest.specs.Shape.{shape_of}
use Rattle.xf_def_forest.specs.Visit.{Visit, visits}
use Rattle.xf_def_forest.proofs.RenumberLaws.{filter-through, visits-renumbered}
use Rattle.xf_def_forest.proofs.RenumberTexts.{shape_of-renumbered}
use Rattle.xf_def_model.specs.Applied.{Entry, applied}
use Rattle.xf_def_model.specs.Entries.{edge_count, is_computed}
use Rattle.xf_def_model.specs.Pertinent.{AllOf}
use Rattle.xf_def_model.specs.Properties.{is_valid}
use Rattle.xf_def_model.specs.Rules.{Scope}
use Rattle.xf_def_model.specs.Same.{renumbered_entry, renumbered_scope, renumbered_valued, renumbered_applied}
use Rattle.xf_def_model.specs.Settled.{Valued, values_over}
use Rattle.xf_def_model.proofs.RenumberApplied.{applied-renumbered}
use Rattle.xf_def_model.proofs.RenumberEntries.{sets-go}
use Rattle.xf_def_model.proofs.RenumberProperties.{is_valid-renumbered}
use Rattle.xf_def_model.proofs.RenumberSettled.{edges-renumbered}
use Rattle.xf_def_machine.specs.Profile.{Profile}
use Rattle.xf_def_machine.specs.Program.{Program}
use Rattle.xf_def_machine.specs.State.{Flags, Model, State}
use Rattle.xf_def_machine.specs.Surround.{bind_scope, all_in, model_holding}
use Rattle.xf_def_machine.specs.Cycles.{counted_from}
use Rattle.xf_def_machine.specs.Behave.{no_flags, no_model, model_at, truly, is_model, is_invalid}
use Rattle.xf_def_machine.specs.Properties.{value_from, values_of}
use Rattle.xf_def_machine.specs.Update.{has_flag, shown}
use Rattle.xf_def_machine.specs.Step.{fresh}
use Rattle.xf_def_machine.specs.Same.{renumbered_model, renumbered_index, renumbered_copy}
use Rattle.xf_def_machine.specs.AtRest.{RestsModel, IsAtRest}
use Rattle.xf_law_sessions.specs.Same.Going.{image}
use Rattle.xf_law_sessions.specs.Same.Controls.{renumbered_list}
use Rattle.xf_law_sessions.proofs.SameLemmas.ForestGoes.{model-goes}
use Rattle.xf_law_sessions.proofs.SameLemmas.ScopeGoes.{bind_scope-is, rules-go}
use Rattle.xf_law_sessions.proofs.SameLemmas.RecalculateGoes.{values-go, each-truly}
use Rattle.xf_law_sessions.proofs.SameLemmas.RevalidateGoes as valid
use Rattle.xf_law_sessions.proofs.SameLemmas.StateGoes.{tables-of}
use Rattle.xf_law_sessions.proofs.SameLemmas.ControlsGo.{shown-is}
use Rattle.xf_law_sessions.specs.Step.Steps.{IsOfForm}
use Rattle.xf_law_sessions.specs.Step.Fixed.{HaveSameData, RestIsFixed}
use Rattle.xf_law_sessions.proofs.StepLemmas.ChangesAlike.{has-form}

ok-same : {X Y : Type 0} {x y : X} → ◌≡◌ {A = Result X Y} (Ok x) (Ok y) → x ≡ y
ok-same q = cc

-- ---- flags where nothing is due

none-flags : (x : Flags) → has_flag x ≡ false → x ≡ no_flags
none-flags x h = by x.rebuild x.recalculate x.revalidate x.refresh h
  where
    by : (a b c d : Bool) → (a || b || c || d) ≡ false → ◌≡◌ {A = Flags} (record { rebuild = a; recalculate = b; revalidate = c; refresh = d }) no_flags
    by true b c d q = cc
    by false true c d q = cc
    by false false true d q = cc
    by false false false true q = cc
    by false false false false q = refl

or-false : (a b : Bool) → (a || b) ≡ false → (a ≡ false) × (b ≡ false)
or-false true b h = cc
or-false false b h = (refl, h)

flags-at : (ms : List Model) → list_any (λ m. has_flag m.flags) ms ≡ false → (k : ℕ) → (get_or ms k no_model).flags ≡ no_flags
flags-at [] h zero = refl
flags-at [] h (suc k) = refl
flags-at (m ∷ ms) h zero = none-flags m.flags (or-false (has_flag m.flags) (list_any (λ x. has_flag x.flags) ms) h).0
flags-at (m ∷ ms) h (suc k) = flags-at ms (or-false (has_flag m.flags) (list_any (λ x. has_flag x.flags) ms) h).1 k

-- ---- lists of models, one by one

all-both : (P Q : ℕ → Type 0) (ns : List ℕ) → AllOf P ns → AllOf Q ns → AllOf (λ n. P n × Q n) ns
all-both P Q [] h k = tt
all-both P Q (n ∷ ns) h k = ((h.0, k.0), all-both P Q ns h.1 k.1)

all-more : (P Q : ℕ → Type 0) (ns : List ℕ) → ((n : ℕ) → P n → Q n) → AllOf P ns → AllOf Q ns
all-more P Q [] f h = tt
all-more P Q (n ∷ ns) f h = (f n h.0, all-more P Q ns f h.1)

models-equal : (g : Model → Model) (one two : ℕ → Model) (k : ℕ) (ms ns : List Model) → length ms ≡ length ns → ((i : ℕ) → one (k + i) ≡ get_or ms i no_model) → ((i : ℕ) → two (k + i) ≡ get_or ns i no_model)
    → AllOf (λ j. g (one j) ≡ two j) (counted_from k (length ms)) → map g ms ≡ ns
models-equal g one two k [] [] l p q h = refl
models-equal g one two k [] (n ∷ ns) l p q h = cc
models-equal g one two k (m ∷ ms) [] l p q h = cc
models-equal g one two k (m ∷ ms) (n ∷ ns) l p q h =
    let plain : k + 0 ≡ k = omega arith in
    let here_ : g m ≡ n = ap g (sym (p 0) ∙ ap one plain) ∙ h.0 ∙ ap two (sym plain) ∙ q 0 in
    let less : length ms ≡ length ns = omega (arith, l) in
    ap (λ x. x ∷ map g ms) here_
    ∙ ap (λ xs. n ∷ xs) (models-equal g one two (suc k) ms ns less (λ i. let w : suc k + i ≡ k + suc i = omega arith in ap one w ∙ p (suc i)) (λ i. let w : suc k + i ≡ k + suc i = omega arith in ap two w ∙ q (suc i)) h.1)

-- ---- a state at rest beside one with the same data

module _ (p : Profile) (f : ℕ → ℕ) (same : IsRenumbering f) (texts : KeepsTexts f) (s : State) (form : IsOfForm s.form) where
  -- the data of the other one
  abbrev with_data : State → State
  with_data t = record t { form = s.form; forest = record { nodes = map (renumbered f) s.forest.nodes; next = t.forest.next }; indexes = map (renumbered_index f) s.indexes }

  module _ (t : State) (k : ℕ) (h : RestsModel p s k) (q : RestsModel p (with_data t) k) where
    abbrev one : Model
    one = model_at s k

    abbrev two : Model
    two = model_at t k

    scopes : bind_scope p (with_data t) k ≡ renumbered_scope f (bind_scope p s k)
    scopes = bind_scope-is f same 0 s p k

    entries-are : map (renumbered_entry f) one.entries ≡ two.entries
    entries-are = ok-same
        (sym (ap (renumbered_applied f) h.entries)
        ∙ sym (applied-renumbered f same texts (bind_scope p s k) (sets-go f s.form.rules (rules-go p f same s (tables-of s (has-form s form)) k)) s.forest.nodes)
        ∙ ap (λ x. applied x (map (renumbered f) s.forest.nodes)) (sym scopes) ∙ q.entries)

    asked-are : one.asked ≡ two.asked
    asked-are =
        h.asked ∙ sym (edges-renumbered f same (bind_scope p s k) (rules-go p f same s (tables-of s (has-form s form)) k) (shape_of s.forest.nodes) one.entries)
        ∙ ap (λ x. edge_count x (map (renumbered_visit f) (shape_of s.forest.nodes)) (map (renumbered_entry f) one.entries)) (sym scopes)
        ∙ ap (λ v. edge_count (bind_scope p (with_data t) k) v (map (renumbered_entry f) one.entries)) (sym (shape_of-renumbered f same texts s.forest.nodes))
        ∙ ap (edge_count (bind_scope p (with_data t) k) (shape_of (map (renumbered f) s.forest.nodes))) entries-are ∙ sym q.asked

    stood-are : map (renumbered_valued f) one.stood ≡ two.stood
    stood-are =
        let made : Scope → List Entry → List Visit → List Valued = λ x es v. map truly (values_over p.bounds x es v) in
        ap (map (renumbered_valued f)) h.values ∙ sym (each-truly f (values_over p.bounds (bind_scope p s k) one.entries (all_in s)))
        ∙ ap (map truly) (sym (values-go f same p.bounds (bind_scope p s k) (rules-go p f same s (tables-of s (has-form s form)) k) one.entries (all_in s)))
        ∙ ap (λ x. made x (map (renumbered_entry f) one.entries) (map (renumbered_visit f) (all_in s))) (sym scopes)
        ∙ ap (made (bind_scope p (with_data t) k) (map (renumbered_entry f) one.entries)) (sym (visits-renumbered f same s.forest.nodes))
        ∙ ap (λ es. made (bind_scope p (with_data t) k) es (visits (map (renumbered f) s.forest.nodes))) entries-are ∙ sym q.values

    values-are : values_of two ≡ map (renumbered_valued f) (values_of one)
    values-are =
        ap (λ st. map (value_from st) (filter is_computed two.entries)) (sym stood-are)
        ∙ ap (λ es. map (value_from (map (renumbered_valued f) one.stood)) (filter is_computed es)) (sym entries-are) ∙ valid.values-go f same one

    valid-are : (n : ℕ) → is_valid (p.meets s.form.types) (bind_scope p (with_data t) k) (visits (map (renumbered f) s.forest.nodes)) two.entries (values_of two) (f n)
        ≡ is_valid (p.meets s.form.types) (bind_scope p s k) (all_in s) one.entries (values_of one) n
    valid-are n =
        ap (λ vs. is_valid (p.meets s.form.types) (bind_scope p (with_data t) k) (visits (map (renumbered f) s.forest.nodes)) two.entries vs (f n)) values-are
        ∙ ap (λ es. is_valid (p.meets s.form.types) (bind_scope p (with_data t) k) (visits (map (renumbered f) s.forest.nodes)) es (map (renumbered_valued f) (values_of one)) (f n)) (sym entries-are)
        ∙ ap (λ x. is_valid (p.meets s.form.types) x (visits (map (renumbered f) s.forest.nodes)) (map (renumbered_entry f) one.entries) (map (renumbered_valued f) (values_of one)) (f n)) scopes
        ∙ ap (λ v. is_valid (p.meets s.form.types) (renumbered_scope f (bind_scope p s k)) v (map (renumbered_entry f) one.entries) (map (renumbered_valued f) (values_of one)) (f n)) (visits-renumbered f same s.forest.nodes)
        ∙ is_valid-renumbered f same (values_of one) (p.meets s.form.types) (bind_scope p s k) (all_in s) one.entries n

    each-is : (x : Visit) → is_invalid p k (with_data t) (renumbered_visit f x) ≡ is_invalid p k s x
    each-is x =
        ap (λ o. is_model k o && not (is_valid (p.meets s.form.types) (bind_scope p (with_data t) k) (visits (map (renumbered f) s.forest.nodes)) two.entries (values_of two) (f x.number))) (model-goes f same 0 s x.number)
        ∙ ap (λ b. is_model k (model_holding s x.number) && not b) (valid-are x.number)

    invalid-are : map f one.invalid ≡ two.invalid
    invalid-are =
        ap (map f) h.invalid ∙ sym (valid.numbers-go f same (filter (is_invalid p k s) (all_in s)))
        ∙ ap (map (λ (x : Visit). x.number)) (sym (filter-through (renumbered_visit f) (is_invalid p k (with_data t)) (is_invalid p k s) each-is (all_in s)))
        ∙ ap (λ v. map (λ (x : Visit). x.number) (filter (is_invalid p k (with_data t)) v)) (sym (visits-renumbered f same s.forest.nodes)) ∙ sym q.invalid

    model-is : one.flags ≡ no_flags → two.flags ≡ no_flags → renumbered_model f one ≡ two
    model-is a b =
        let m = renumbered_model f one in
        ap {A = List Entry} {B = Model} (λ x. record m { entries = x }) entries-are
        ∙ ap {A = ℕ} {B = Model} (λ x. record m { entries = two.entries; asked = x }) asked-are
        ∙ ap {A = List Valued} {B = Model} (λ x. record m { entries = two.entries; asked = two.asked; stood = x }) stood-are
        ∙ ap {A = List ℕ} {B = Model} (λ x. record m { entries = two.entries; asked = two.asked; stood = two.stood; invalid = x }) invalid-are
        ∙ ap {A = Flags} {B = Model} (λ x. record m { entries = two.entries; asked = two.asked; stood = two.stood; invalid = two.invalid; flags = x }) (a ∙ sym b)
        ∙ ap {A = List ℕ} {B = Model} (λ x. record m { entries = two.entries; asked = two.asked; stood = two.stood; invalid = two.invalid; flags = two.flags; texts = x }) (ap (map f) h.texts ∙ sym q.texts)
        ∙ ap {A = List ℕ} {B = Model} (λ x. record m { entries = two.entries; asked = two.asked; stood = two.stood; invalid = two.invalid; flags = two.flags; texts = two.texts; lists = x }) (ap (map f) h.lists ∙ sym q.lists)

  pub models-are : (t : State) → IsAtRest p s → IsAtRest p (with_data t) → map (renumbered_model f) s.models ≡ t.models
  models-are t h q =
      let size : length s.models ≡ length t.models = h.model_count ∙ sym q.model_count in
      let start : (ms : List Model) → (i : ℕ) → get_or ms (0 + i) no_model ≡ get_or ms i no_model = λ ms i. let w : 0 + i ≡ i = omega arith in ap (λ j. get_or ms j no_model) w in
      models-equal (renumbered_model f) (model_at s) (model_at t) 0 s.models t.models size (start s.models) (start t.models)
      (all-more (λ k. RestsModel p s k × RestsModel p (with_data t) k) (λ k. renumbered_model f (model_at s k) ≡ model_at t k) (counted_from 0 (length s.models))
      (λ k r. model-is t k r.0 r.1 (flags-at s.models h.is_due k) (flags-at t.models q.is_due k))
      (all-both (RestsModel p s) (RestsModel p (with_data t)) (counted_from 0 (length s.models)) h.models
      (subst (λ n. AllOf (RestsModel p (with_data t)) (counted_from 0 n)) (sym size) q.models)))

  -- ---- the controls

  pub controls-are : (t : State) → IsAtRest p s → IsAtRest p (with_data t) → s.cases ≡ t.cases → s.calls ≡ t.calls → map (renumbered_copy f) s.controls ≡ t.controls
  controls-are t h q cases calls =
      let u = image f 0 s in
      let begun = with_data t in
      ok-same
      (sym (ap (renumbered_list f) h.controls) ∙ sym (shown-is p f same 0 s (has-form s form))
      ∙ ap (λ x. shown p (record u { cases = x })) cases ∙ ap (λ x. shown p (record u { cases = t.cases; calls = x })) calls
      ∙ ap (λ x. shown p (record u { cases = t.cases; calls = t.calls; models = x })) (models-are t h q) ∙ q.controls)

fresh-calls : (p : Profile) (s : State) → fresh p s ≡ s → [] ≡ s.calls
fresh-calls p s q = ap (λ (x : State). x.calls) q

pub rest_is_fixed : RestIsFixed
rest_is_fixed p f s t form d h q =
    let with_form : IsAtRest p (record t { form = s.form }) = subst (λ (x : Program). IsAtRest p (record t { form = x })) (sym d.form) q in
    let with_nodes : IsAtRest p (record t { form = s.form; forest = record { nodes = map (renumbered f) s.forest.nodes; next = t.forest.next } }) =
    subst (λ x. IsAtRest p (record t { form = s.form; forest = record { nodes = x; next = t.forest.next } })) (sym d.nodes) with_form in
    let with_all : IsAtRest p (with_data p f d.renumbers d.keeps_texts s form t) =
    subst (λ x. IsAtRest p (record t { form = s.form; forest = record { nodes = map (renumbered f) s.forest.nodes; next = t.forest.next }; indexes = x })) (sym d.indexes) with_nodes in
    let calls : s.calls ≡ t.calls = sym (fresh-calls p s h.is_fresh) ∙ fresh-calls p t q.is_fresh in
    record {
      by = f;
      renumbers = d.renumbers;
      keeps_texts = d.keeps_texts;
      form = d.form;
      nodes = d.nodes;
      indexes = d.indexes;
      cases = d.cases;
      models = models-are p f d.renumbers d.keeps_texts s form t h with_all;
      controls = controls-are p f d.renumbers d.keeps_texts s form t h with_all d.cases calls;
      accepted = d.accepted;
      notes = ap (λ (x : State). x.notes) (sym h.is_fresh) ∙ ap (λ (x : State). x.notes) q.is_fresh;
      turns = ap (λ (x : State). x.turns) (sym h.is_fresh) ∙ ap (λ (x : State). x.turns) q.is_fresh;
      made = ap (λ (x : State). x.made) (sym h.is_fresh) ∙ ap (λ (x : State). x.made) q.is_fresh;
      evaluated = ap (λ (x : State). x.evaluated) (sym h.is_fresh) ∙ ap (λ (x : State). x.evaluated) q.is_fresh;
      calls = calls;
    }

-- by the renumbering that is given
pub fixed-by : (p : Profile) (f : ℕ → ℕ) (s t : State) (form : IsOfForm s.form) (d : HaveSameData f s t) (h : IsAtRest p s) (q : IsAtRest p t) → f ≡ (rest_is_fixed p f s t form d h q).by
unfolding rest_is_fixed
fixed-by p f s t form d h q = refl
