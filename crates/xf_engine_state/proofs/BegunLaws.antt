-- A form of which all data are planted and no model is built.
use Rattle.std.proofs.Common.{◌≡◌, ℕ, zero, suc, Bool, true, false, List, [], ◌∷◌, map, length, None, Ok, refl, sym, ap, ◌∙◌, subst, arith}
use Rattle.std.specs.Prelude.{replicate, ◌≤◌}
use Rattle.std.specs.Bool.{OnTrue}
use Rattle.std.proofs.lemmas.List.{length-replicate}
use Rattle.xf_def_forest.specs.Changes.{in_detached, in_instances, root_of}
use Rattle.xf_def_forest.specs.Forest.{Forest}
use Rattle.xf_def_forest.specs.Shape.{shape_of}
use Rattle.xf_law_recalculation.specs.Agree.Hung.{are_hung}
use Rattle.xf_def_machine.specs.Behave.{no_model}
use Rattle.xf_binds.specs.Kept.{Kept, no_kept}
use Rattle.xf_binds.specs.Table.{all_rolled_back}
use Rattle.xf_controls.specs.declared.copy.ControlCopy.{ControlCopy}
use Rattle.xf_form.specs.declared.loaded.Loaded.{Loaded}
use Rattle.xf_undo.specs.Draft.{Draft, kept_as}
use Rattle.xf_engine_state.specs.declared.flags.Flags.{Flags}
use Rattle.xf_engine_state.specs.declared.knowing.Knowledge.{Knowledge}
use Rattle.xf_engine_state.specs.declared.tally.Tally.{Tally}
use Rattle.xf_engine_state.specs.Built.{IsWhole}
use Rattle.xf_engine_state.specs.Fit.{IsRight}
use Rattle.xf_engine_state.specs.Flags.{none_due}
use Rattle.xf_engine_state.specs.Held.{last_place, planted_shape, shape_by}
use Rattle.xf_engine_state.specs.Parts.{IsLoaded, IsSound, chosen_of, models_of, standing_of}
use Rattle.xf_engine_state.specs.Planting.{IsBegun, growing, planted_by}
use Rattle.xf_engine_state.specs.Standing.{Standing, state_of}
use Rattle.xf_engine_state.proofs.DeepLaws.{all-instances}

models-none : {X : Type 0} (xs : List X) → models_of (replicate (length xs) no_kept) (replicate (length xs) none_due) ≡ map (λ x. no_model) xs
models-none [] = refl
models-none (x ∷ xs) = ap (λ ms. no_model ∷ ms) (models-none xs)

none-rolled : (n : ℕ) → all_rolled_back (replicate n no_kept) ≡ replicate n no_kept
none-rolled zero = refl
none-rolled (suc n) = ap (λ ks. no_kept ∷ ks) (none-rolled n)

-- the instances alone
abbrev pub instances : Forest → Forest
instances f = record f { nodes = in_instances f.nodes }

instances-same : (f : Forest) → in_detached f.nodes ≡ [] → instances f ≡ f
instances-same f none = ap (λ nodes. record f { nodes = nodes }) (all-instances f.nodes none)

abbrev pub first_tally : ℕ → Tally
first_tally made = record { accepted = 0; turns = 50000; made = made; evaluated = 0 }

begun-same : (loaded : Loaded) (f : Forest) (made : ℕ) → in_detached f.nodes ≡ []
    → growing loaded f made ≡ state_of (standing_of (chosen_of [] []) loaded (instances f) (replicate (length loaded.form.models) no_kept) (replicate (length loaded.form.models) none_due) [] (first_tally made))
begun-same loaded f made none =
    ap (λ ms. record (growing loaded f made) { models = ms }) (sym (models-none loaded.form.models))
    ∙ ap (λ (g : Forest). state_of (standing_of (chosen_of [] []) loaded g (replicate (length loaded.form.models) no_kept) (replicate (length loaded.form.models) none_due) [] (first_tally made))) (sym (instances-same f none))

none-built : (loaded : Loaded) (f : Forest) (table : List Kept) (flags : List Flags) → in_detached f.nodes ≡ [] → are_hung f.nodes ≡ true → root_of last_place f.nodes ≡ None → IsWhole loaded (instances f) table flags 0
none-built loaded f table flags none hung few = record {
  hung = ap are_hung (all-instances f.nodes none) ∙ hung;
  few = ap (root_of last_place) (all-instances f.nodes none) ∙ few;
  models = λ model h settled. absurd (omega (arith, h));
}

-- what is known of it
abbrev pub first_knowledge : Knowledge
first_knowledge = record { known = None; is_steady = false; is_planted = true; is_alone = true }

right-planted : (loaded : Loaded) (f : Forest) (table : List Kept) (controls : List ControlCopy) → in_detached f.nodes ≡ [] → shape_of f.nodes ≡ planted_shape loaded → IsRight loaded (instances f) table controls first_knowledge
right-planted loaded f table controls none shaped =
    let alone = ap in_detached (all-instances f.nodes none) ∙ none in
    record {
      known = tt;
      steady = tt;
      planted = record { shape = ap shape_of (all-instances f.nodes none) ∙ shaped; alone = alone };
      alone = alone;
    }

-- the shape of the data that were planted is what is kept
pub shape-planted : (loaded : Loaded) (f : Forest) (made : ℕ) → planted_by loaded ≡ Ok (growing loaded f made) → shape_of f.nodes ≡ planted_shape loaded
unfolding planted_shape
shape-planted loaded f made e = sym (ap shape_by e)

-- a test of the form that was made is right
pub told-true : (b is : Bool) → b ≡ is → OnTrue b (is ≡ true)
told-true true is e = sym e
told-true false is e = tt

-- ---- what an engine works on then

module _ (loaded : Loaded) (f : Forest) (made n : ℕ) (draft : Draft) (table : List Kept) (flags old : List Flags) (controls : List ControlCopy)
    (none : in_detached f.nodes ≡ []) (kept : draft ≡ kept_as (instances f)) (tables : table ≡ replicate n no_kept)
    (now : flags ≡ replicate n none_due) (before : old ≡ replicate n none_due) where
  pub begun-sound : IsLoaded loaded → are_hung f.nodes ≡ true → root_of last_place f.nodes ≡ None → n ≤ 4294967295 → IsSound loaded draft table flags old 0 0
  begun-sound is hung few_roots few =
      let due = ap length now ∙ length-replicate n none_due in
      record {
        loaded = is;
        many = ap length tables ∙ length-replicate n no_kept ∙ sym due;
        kept = ap length before ∙ length-replicate n none_due ∙ sym due;
        few = omega (arith, due, few);
        now = subst (λ (d : Draft). IsWhole loaded d.now table flags 0) (sym kept) (none-built loaded f table flags none hung few_roots);
        before = subst (λ (d : Draft). IsWhole loaded d.kept (all_rolled_back table) old 0) (sym kept) (none-built loaded f (all_rolled_back table) old none hung few_roots);
      }

  pub begun-now : shape_of f.nodes ≡ planted_shape loaded → (ks : List Kept) (list : List ControlCopy) → IsRight loaded draft.now ks list first_knowledge
  begun-now shaped ks list = subst (λ (d : Draft). IsRight loaded d.now ks list first_knowledge) (sym kept) (right-planted loaded f ks list none shaped)

  pub begun-before : shape_of f.nodes ≡ planted_shape loaded → (ks : List Kept) (list : List ControlCopy) → IsRight loaded draft.kept ks list first_knowledge
  begun-before shaped ks list = subst (λ (d : Draft). IsRight loaded d.kept ks list first_knowledge) (sym kept) (right-planted loaded f ks list none shaped)

  pub begun-alone : in_detached draft.kept.nodes ≡ []
  begun-alone = subst (λ (d : Draft). in_detached d.kept.nodes ≡ []) (sym kept) (ap in_detached (all-instances f.nodes none) ∙ none)

  abbrev first : List Kept → Standing
  first ks = standing_of (chosen_of [] []) loaded (instances f) ks (replicate n none_due) controls (first_tally made)

  abbrev standing : Standing
  standing = standing_of (chosen_of [] []) loaded draft.now table flags controls (first_tally made)

  now-first : standing ≡ first (replicate n no_kept)
  now-first =
      ap (λ (d : Draft). standing_of (chosen_of [] []) loaded d.now table flags controls (first_tally made)) kept
      ∙ ap (λ ks. standing_of (chosen_of [] []) loaded (instances f) ks flags controls (first_tally made)) tables
      ∙ ap (λ fs. standing_of (chosen_of [] []) loaded (instances f) (replicate n no_kept) fs controls (first_tally made)) now

  kept-first : standing_of (chosen_of [] []) loaded draft.kept (all_rolled_back table) old controls (first_tally made) ≡ first (replicate n no_kept)
  kept-first =
      ap (λ (d : Draft). standing_of (chosen_of [] []) loaded d.kept (all_rolled_back table) old controls (first_tally made)) kept
      ∙ ap (λ ks. standing_of (chosen_of [] []) loaded (instances f) (all_rolled_back ks) old controls (first_tally made)) tables
      ∙ ap (λ ks. standing_of (chosen_of [] []) loaded (instances f) ks old controls (first_tally made)) (none-rolled n)
      ∙ ap (λ fs. standing_of (chosen_of [] []) loaded (instances f) (replicate n no_kept) fs controls (first_tally made)) before

  pub begun-is : n ≡ length loaded.form.models → controls ≡ [] → planted_by loaded ≡ Ok (growing loaded f made)
      → IsBegun (record {
        kept = record { standing = standing_of (chosen_of [] []) loaded draft.kept (all_rolled_back table) old controls (first_tally made); built = 0 };
        now = standing;
        built = 0;
      }) (planted_by loaded)
  begun-is count empty e = record {
    now = e ∙ ap Ok (begun-same loaded f made none
        ∙ ap (λ m. state_of (standing_of (chosen_of [] []) loaded (instances f) (replicate m no_kept) (replicate m none_due) [] (first_tally made))) (sym count)
        ∙ ap (λ cs. state_of (standing_of (chosen_of [] []) loaded (instances f) (replicate n no_kept) (replicate n none_due) cs (first_tally made))) (sym empty)
        ∙ ap state_of (sym now-first));
    kept = ap (λ s. record { standing = s; built = 0 }) (kept-first ∙ sym now-first);
    built = refl;
  }
