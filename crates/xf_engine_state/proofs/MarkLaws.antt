-- The properties of nodes and what is not valid, by a table and by the state.
use Rattle.std.proofs.Common.{◌≡◌, ℕ, ◌<◌, Bool, cond, ◌&&◌, ◌||◌, List, [], ◌∷◌, ◌++◌, map, length, get_or, Option, Some, None, refl, sym, ap, ◌∙◌, arith}
use Rattle.std.proofs.Math.Path.{fun_ext}
use Rattle.std.specs.Prelude.{not, filter, slice_set}
use Rattle.std.specs.List.{flat_map, list_any}
use Rattle.xf_schema.specs.Facets.{is_of_type}
use Rattle.xf_def_forest.specs.Forest.{Forest}
use Rattle.xf_def_forest.specs.Visit.{Visit, visits, has}
use Rattle.xf_def_model.specs.Properties.{is_valid, is_relevant, is_readonly, is_required}
use Rattle.xf_def_machine.specs.State.{Model, State}
use Rattle.xf_def_machine.specs.Surround.{bind_scope, all_in, model_holding}
use Rattle.xf_def_machine.specs.Primitives.{in_model}
use Rattle.xf_def_machine.specs.Properties as machine_values
use Rattle.xf_def_machine.specs.Behave as machine
use Rattle.xf_def_machine.specs.Behave.{model_at, revalidated_with}
use Rattle.xf_binds.specs.Kept.{Kept, values_of}
use Rattle.xf_binds.specs.Table.{kept_at, with_kept}
use Rattle.xf_controls.specs.declared.copy.ControlCopy.{ControlCopy}
use Rattle.xf_valid.specs.Invalid as valid
use Rattle.xf_valid.specs.Invalid.{revalidated, invalid_in}
use Rattle.xf_valid.specs.Nodes as table_marks
use Rattle.xf_form.specs.declared.loaded.Loaded.{Loaded}
use Rattle.xf_engine_state.specs.declared.flags.Flags.{Flags}
use Rattle.xf_engine_state.specs.declared.flags.Flag.TheVariants.{Revalidate}
use Rattle.xf_engine_state.specs.declared.tally.Tally.{Tally}
use Rattle.xf_def_form.specs.Formed.{profile}
use Rattle.xf_engine_state.specs.Flags.{none_due, without}
use Rattle.xf_engine_state.specs.Parts.{Chosen, model_of, models_of, standing_of}
use Rattle.xf_engine_state.specs.Standing.{state_of}
use Rattle.xf_engine_state.proofs.Models.{model-at, model-changed}

-- ---- the properties of nodes

values-same : (ks : List Kept) (fs : List Flags) → length ks ≡ length fs → flat_map machine_values.values_of (models_of ks fs) ≡ flat_map values_of ks
values-same [] fs e = refl
values-same (k ∷ ks) [] e = absurd (omega (arith, e))
values-same (k ∷ ks) (f ∷ fs) e = ap (λ vs. values_of k ++ vs) (values-same ks fs (omega (arith, e)))

invalid-same : (n : ℕ) (ks : List Kept) (fs : List Flags) → length ks ≡ length fs → list_any (λ (m : Model). has n m.invalid) (models_of ks fs) ≡ list_any (λ (k : Kept). has n k.invalid) ks
invalid-same n [] fs e = refl
invalid-same n (k ∷ ks) [] e = absurd (omega (arith, e))
invalid-same n (k ∷ ks) (f ∷ fs) e = ap (λ b. has n k.invalid || b) (invalid-same n ks fs (omega (arith, e)))

pub marks-at : (chosen : Chosen) (loaded : Loaded) (forest : Forest) (table : List Kept) (flags : List Flags) (controls : List ControlCopy) (tally : Tally) → length table ≡ length flags
    → (n : ℕ) → machine_values.marks_in (state_of (standing_of chosen loaded forest table flags controls tally)) n ≡ table_marks.marks_in table forest.nodes n
marks-at chosen loaded forest table flags controls tally many n =
    ap (λ vs. record {
      relevant = is_relevant (visits forest.nodes) vs n;
      readonly = is_readonly (visits forest.nodes) vs n;
      required = is_required vs n;
      valid = not (list_any (λ (m : Model). has n m.invalid) (models_of table flags));
    }) (values-same table flags many)
    ∙ ap (λ b. record (table_marks.marks_in table forest.nodes n) { valid = not b }) (invalid-same n table flags many)

pub marks-same : (chosen : Chosen) (loaded : Loaded) (forest : Forest) (table : List Kept) (flags : List Flags) (controls : List ControlCopy) (tally : Tally) → length table ≡ length flags
    → machine_values.marks_in (state_of (standing_of chosen loaded forest table flags controls tally)) ≡ table_marks.marks_in table forest.nodes
marks-same chosen loaded forest table flags controls tally many = fun_ext (marks-at chosen loaded forest table flags controls tally many)

-- ---- what is not valid

model-same : (model : ℕ) (o : Option ℕ) → machine.is_model model o ≡ valid.is_model model o
model-same model None = refl
model-same model (Some n) = refl

filter-same : {X : Type 0} (p q : X → Bool) (xs : List X) → ((x : X) → p x ≡ q x) → filter p xs ≡ filter q xs
filter-same p q [] h = refl
filter-same p q (x ∷ xs) h = ap (λ b. cond b (x ∷ filter p xs) (filter p xs)) (h x) ∙ ap (λ ys. cond (q x) (x ∷ ys) ys) (filter-same p q xs h)

module _ (chosen : Chosen) (loaded : Loaded) (forest : Forest) (model : ℕ) (table : List Kept) (flags : List Flags) (controls : List ControlCopy) (tally : Tally)
    (many : length table ≡ length flags) (within : model < length flags) where
  abbrev before : State
  before = state_of (standing_of chosen loaded forest table flags controls tally)

  abbrev k : Kept
  k = kept_at table model

  here : model_at before model ≡ model_of (kept_at table model) (get_or flags model none_due)
  here = model-at table flags model many within

  invalid-here : (x : Visit) → machine.is_invalid profile model before x ≡ valid.is_invalid loaded.form.tables.types (bind_scope profile before model) loaded.form.tables.instances forest.nodes (kept_at table model) x.number
  invalid-here x =
      ap (λ (m : Model). machine.is_model model (model_holding before x.number) && not (is_valid (is_of_type loaded.form.tables.types) (bind_scope profile before model) (all_in before) m.entries (machine_values.values_of m) x.number)) here
      ∙ ap (λ b. b && not (is_valid (is_of_type loaded.form.tables.types) (bind_scope profile before model) (visits forest.nodes) (kept_at table model).entries (values_of (kept_at table model)) x.number)) (model-same model (model_holding before x.number))

  pub revalidate-done : (after : List Kept) → after ≡ with_kept table model (revalidated loaded.form.tables.types (bind_scope profile before model) loaded.form.tables.instances forest.nodes (kept_at table model))
      → machine.revalidate profile model before ≡ state_of (standing_of chosen loaded forest after (slice_set flags model (without Revalidate (get_or flags model none_due))) controls tally)
  revalidate-done after e =
      ap (λ ns. in_model (revalidated_with ns) model before) (ap (map (λ (x : Visit). x.number)) (filter-same (machine.is_invalid profile model before) (λ x. valid.is_invalid loaded.form.tables.types (bind_scope profile before model) loaded.form.tables.instances forest.nodes (kept_at table model) x.number) (visits forest.nodes) invalid-here))
      ∙ ap (λ ms. record before { models = ms })
      (model-changed (revalidated_with (invalid_in loaded.form.tables.types (bind_scope profile before model) loaded.form.tables.instances forest.nodes (kept_at table model))) table flags model
      (revalidated loaded.form.tables.types (bind_scope profile before model) loaded.form.tables.instances forest.nodes (kept_at table model)) (without Revalidate (get_or flags model none_due)) many within refl)
      ∙ ap (λ t. state_of (standing_of chosen loaded forest t (slice_set flags model (without Revalidate (get_or flags model none_due))) controls tally)) (sym e)
