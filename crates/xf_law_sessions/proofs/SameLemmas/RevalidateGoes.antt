-- A revalidation goes with a renumbering.
use Rattle.std.proofs.Common.{◌≡◌, ℕ, not, ◌&&◌, List, [], ◌∷◌, map, filter, find, Option, Some, None, option_map, Ok, refl, ap, ◌∙◌}
use Rattle.std.specs.Prelude.{option_and_then}
use Rattle.xf_def_forest.specs.Same.{IsRenumbering, renumbered, renumbered_visit}
use Rattle.xf_def_forest.specs.Visit.{Visit, visits}
use Rattle.xf_def_forest.proofs.RenumberLaws.{filter-through, find-through, visits-renumbered}
use Rattle.xf_def_xpath.specs.declared.value.Value.{Value}
use Rattle.xf_def_xpath.specs.Same.{renumbered_value}
use Rattle.xf_def_model.specs.Applied.{Entry}
use Rattle.xf_def_model.specs.Entries.{is_computed}
use Rattle.xf_def_model.specs.Pertinent.{is_same}
use Rattle.xf_def_model.specs.Properties.{is_valid}
use Rattle.xf_def_model.specs.Same.{renumbered_entry, renumbered_scope, renumbered_valued}
use Rattle.xf_def_model.specs.Settled.{Valued}
use Rattle.xf_def_model.proofs.RenumberProperties.{is_valid-renumbered}
use Rattle.xf_def_machine.specs.Profile.{Profile}
use Rattle.xf_def_machine.specs.State.{Model, State}
use Rattle.xf_def_machine.specs.Surround.{bind_scope, all_in, model_holding}
use Rattle.xf_def_machine.specs.Primitives.{in_model}
use Rattle.xf_def_machine.specs.Properties.{value_from, values_of}
use Rattle.xf_def_machine.specs.Behave.{model_at, is_model, is_invalid, revalidated_with, revalidate}
use Rattle.xf_def_machine.specs.Same.{renumbered_model}
use Rattle.xf_law_sessions.specs.Same.Going.{Runs, image, Counts, GoesAt}
use Rattle.xf_law_sessions.specs.Same.Behaving.{Behaves}
use Rattle.xf_law_sessions.proofs.SameLemmas.ForestGoes.{model-goes}
use Rattle.xf_law_sessions.proofs.SameLemmas.ScopeGoes.{bind_scope-is, model-at}
use Rattle.xf_law_sessions.proofs.SameLemmas.GoingLaws.{in-model-goes}

module _ (f : ℕ → ℕ) (same : IsRenumbering f) where
  same-goes : (a b : Entry) → is_same (renumbered_entry f a) (renumbered_entry f b) ≡ is_same a b
  same-goes a b = rw (same a.node b.node) refl

  value-goes : (o : Option Valued) → option_and_then (λ (v : Valued). v.value) (option_map (renumbered_valued f) o) ≡ option_map (renumbered_value f) (option_and_then (λ (v : Valued). v.value) o)
  value-goes None = refl
  value-goes (Some v) = refl

  from-goes : (stood : List Valued) (e : Entry) → value_from (map (renumbered_valued f) stood) (renumbered_entry f e) ≡ renumbered_valued f (value_from stood e)
  from-goes stood e =
      ap {A = Option Value} {B = Valued} (λ o. record { entry = renumbered_entry f e; value = o })
      (ap (option_and_then (λ (v : Valued). v.value))
      (find-through (renumbered_valued f) (λ v. is_same (renumbered_entry f e) v.entry) (λ v. is_same e v.entry) (λ v. same-goes e v.entry) stood)
      ∙ value-goes (find (λ v. is_same e v.entry) stood))

  each-from : (stood : List Valued) (es : List Entry) → map (value_from (map (renumbered_valued f) stood)) (map (renumbered_entry f) es) ≡ map (renumbered_valued f) (map (value_from stood) es)
  each-from stood [] = refl
  each-from stood (e ∷ es) =
      ap (λ v. v ∷ map (value_from (map (renumbered_valued f) stood)) (map (renumbered_entry f) es)) (from-goes stood e) ∙ ap (λ l. renumbered_valued f (value_from stood e) ∷ l) (each-from stood es)

  pub values-go : (m : Model) → values_of (renumbered_model f m) ≡ map (renumbered_valued f) (values_of m)
  values-go m =
      ap (map (value_from (map (renumbered_valued f) m.stood))) (filter-through (renumbered_entry f) is_computed is_computed (λ e. refl) m.entries)
      ∙ each-from m.stood (filter is_computed m.entries)

  pub numbers-go : (xs : List Visit) → map (λ (x : Visit). x.number) (map (renumbered_visit f) xs) ≡ map f (map (λ (x : Visit). x.number) xs)
  numbers-go [] = refl
  numbers-go (x ∷ xs) = ap (λ l. f x.number ∷ l) (numbers-go xs)

module _ (p : Profile) (f : ℕ → ℕ) (first second : ℕ) (r : Runs p f first second) (model : ℕ) (s : State) where
  abbrev t : State
  t = image f second s

  valid-goes : (n : ℕ)
      → is_valid (p.meets s.form.types) (bind_scope p t model) (visits (map (renumbered f) s.forest.nodes)) (model_at t model).entries (values_of (model_at t model)) (f n)
      ≡ is_valid (p.meets s.form.types) (bind_scope p s model) (all_in s) (model_at s model).entries (values_of (model_at s model)) n
  valid-goes n =
      let m = model_at s model in
      ap (λ x. is_valid (p.meets s.form.types) (bind_scope p t model) (visits (map (renumbered f) s.forest.nodes)) x.entries (values_of x) (f n)) (model-at f model s.models)
      ∙ ap (λ vs. is_valid (p.meets s.form.types) (bind_scope p t model) (visits (map (renumbered f) s.forest.nodes)) (map (renumbered_entry f) m.entries) vs (f n)) (values-go f r.renumbers m)
      ∙ ap (λ x. is_valid (p.meets s.form.types) x (visits (map (renumbered f) s.forest.nodes)) (map (renumbered_entry f) m.entries) (map (renumbered_valued f) (values_of m)) (f n)) (bind_scope-is f r.renumbers second s p model)
      ∙ ap (λ v. is_valid (p.meets s.form.types) (renumbered_scope f (bind_scope p s model)) v (map (renumbered_entry f) m.entries) (map (renumbered_valued f) (values_of m)) (f n)) (visits-renumbered f r.renumbers s.forest.nodes)
      ∙ is_valid-renumbered f r.renumbers (values_of m) (p.meets s.form.types) (bind_scope p s model) (all_in s) m.entries n

  one-goes : (x : Visit) → is_invalid p model t (renumbered_visit f x) ≡ is_invalid p model s x
  one-goes x =
      ap (λ o. is_model model o && not (is_valid (p.meets s.form.types) (bind_scope p t model) (visits (map (renumbered f) s.forest.nodes)) (model_at t model).entries (values_of (model_at t model)) (f x.number)))
      (model-goes f r.renumbers second s x.number)
      ∙ ap (λ b. is_model model (model_holding s x.number) && not b) (valid-goes x.number)

  invalid-goes : map (λ (x : Visit). x.number) (filter (is_invalid p model t) (visits (map (renumbered f) s.forest.nodes))) ≡ map f (map (λ (x : Visit). x.number) (filter (is_invalid p model s) (all_in s)))
  invalid-goes =
      ap (λ xs. map (λ (x : Visit). x.number) (filter (is_invalid p model t) xs)) (visits-renumbered f r.renumbers s.forest.nodes)
      ∙ ap (map (λ (x : Visit). x.number)) (filter-through (renumbered_visit f) (is_invalid p model t) (is_invalid p model s) one-goes (all_in s))
      ∙ numbers-go f r.renumbers (filter (is_invalid p model s) (all_in s))

  revalidated-goes : Counts p first s → GoesAt p f first second (λ u. Ok (revalidate p model u)) (λ u. Ok (revalidate p model u)) s
  revalidated-goes c =
      let ns = map (λ (x : Visit). x.number) (filter (is_invalid p model s) (all_in s)) in
      record {
        is = ap (λ l. Ok (in_model (revalidated_with l) model t)) invalid-goes
            ∙ ap Ok (in-model-goes p f first second r (revalidated_with ns) (revalidated_with (map f ns)) model (λ m. refl) s);
        counts = record { next = c.next; within = c.within };
      }

pub revalidate-goes : (p : Profile) (f : ℕ → ℕ) (first second : ℕ) → Runs p f first second → (model : ℕ) → Behaves p f first second (λ s. Ok (revalidate p model s))
revalidate-goes p f first second r model s tables c = revalidated-goes p f first second r model s c
