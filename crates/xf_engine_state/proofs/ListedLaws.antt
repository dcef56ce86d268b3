-- A list of nodes that is another one, in a table, in flags and in the state: the model that holds it promises nothing of what is built then.
use Rattle.std.proofs.Common.{◌≡◌, ℕ, zero, suc, ◌<◌, true, false, List, [], ◌∷◌, map, length, get_or, Option, Some, None, refl, sym, ap, ◌∙◌, subst, arith}
use Rattle.std.specs.Prelude.{slice_set}
use Rattle.xf_def_forest.specs.Forest.{Forest}
use Rattle.xf_def_xpath.proofs.VisitFacts.{no}
use Rattle.xf_def_machine.specs.Primitives.{all_due, in_some_model, list_changed, with_list_mark}
use Rattle.xf_def_machine.specs.State.{State}
use Rattle.xf_binds.specs.Kept.{Kept, no_kept, rolled_back}
use Rattle.xf_binds.specs.Table.{all_rolled_back, kept_at}
use Rattle.xf_controls.specs.declared.copy.ControlCopy.{ControlCopy}
use Rattle.xf_form.specs.declared.loaded.Loaded.{Loaded}
use Rattle.xf_binds_rebuild.specs.Built.{IsBuilt}
use Rattle.xf_engine_state.specs.declared.flags.Flags.{Flags}
use Rattle.xf_engine_state.specs.declared.tally.Tally.{Tally}
use Rattle.xf_engine_state.specs.Built.{IsWhole, is_rebuild_due, scope_at}
use Rattle.xf_engine_state.specs.Flags.{none_due}
use Rattle.xf_engine_state.specs.Moving as moving
use Rattle.xf_engine_state.specs.Moving.{IsWithin, all_due_of, listed, with_list}
use Rattle.xf_engine_state.specs.Parts.{Chosen, standing_of}
use Rattle.xf_engine_state.specs.Setting.{holder_of}
use Rattle.xf_engine_state.specs.Standing.{state_of}
use Rattle.xf_engine_state.proofs.Models.{flags-length, model-changed, set-length}
use Rattle.xf_engine_state.proofs.WholeLaws.{kept-other}

-- ---- lengths

pub listed-length : (holder : Option ℕ) (n : ℕ) (table : List Kept) → length (listed holder n table) ≡ length table
listed-length None n table = refl
listed-length (Some model) n table = set-length table model (with_list n (kept_at table model))

pub all-due-length : (holder : Option ℕ) (flags : List Flags) → length (all_due_of holder flags) ≡ length flags
all-due-length None flags = refl
all-due-length (Some model) flags = flags-length flags model moving.all_due

-- ---- as it was kept

back-set : (ks : List Kept) (model : ℕ) (k : Kept) → rolled_back k ≡ rolled_back (get_or ks model no_kept) → all_rolled_back (slice_set ks model k) ≡ all_rolled_back ks
back-set [] model k e = refl
back-set (j ∷ ks) zero k e = ap (λ b. b ∷ map rolled_back ks) e
back-set (j ∷ ks) (suc model) k e = ap (λ bs. rolled_back j ∷ bs) (back-set ks model k e)

pub listed-back : (holder : Option ℕ) (n : ℕ) (table : List Kept) → all_rolled_back (listed holder n table) ≡ all_rolled_back table
listed-back None n table = refl
listed-back (Some model) n table = back-set table model (with_list n (kept_at table model)) refl

-- ---- what is due

flags-set : (fs : List Flags) (model : ℕ) (f : Flags) → model < length fs → get_or (slice_set fs model f) model none_due ≡ f
flags-set [] model f h = absurd (omega (arith, h))
flags-set (g ∷ fs) zero f h = refl
flags-set (g ∷ fs) (suc model) f h = flags-set fs model f (omega (arith, h))

flags-other : (fs : List Flags) (model other : ℕ) (f : Flags) → (other ≡ model → ⊥) → get_or (slice_set fs model f) other none_due ≡ get_or fs other none_due
flags-other [] model other f h = refl
flags-other (g ∷ fs) zero zero f h = absurd (h refl)
flags-other (g ∷ fs) zero (suc other) f h = refl
flags-other (g ∷ fs) (suc model) zero f h = refl
flags-other (g ∷ fs) (suc model) (suc other) f h = flags-other fs model other f (λ e. h (ap suc e))

some-model : (a b : ℕ) → Some a ≡ Some b → a ≡ b
some-model a b e = cc e

-- the model that holds it is flagged
pub not-held : (holder : Option ℕ) (flags : List Flags) (model : ℕ) → IsWithin holder flags → is_rebuild_due (all_due_of holder flags) model ≡ false → holder ≡ Some model → ⊥
not-held None flags model within idle e = cc e
not-held (Some held) flags model within idle e =
    let same : held ≡ model = some-model held model e in
    let due : is_rebuild_due (all_due_of (Some held) flags) held ≡ true = ap (λ (f : Flags). f.rebuild) (flags-set flags held moving.all_due within) in
    no (sym (subst (λ m. is_rebuild_due (all_due_of (Some held) flags) m ≡ false) (sym same) idle) ∙ due)

-- a model that is not flagged was not flagged before
pub was-idle : (holder : Option ℕ) (flags : List Flags) (model : ℕ) → IsWithin holder flags → is_rebuild_due (all_due_of holder flags) model ≡ false → is_rebuild_due flags model ≡ false
was-idle None flags model within idle = idle
was-idle (Some held) flags model within idle =
    sym (ap (λ (f : Flags). f.rebuild) (flags-other flags held model moving.all_due (λ e. not-held (Some held) flags model within idle (ap Some (sym e))))) ∙ idle

-- ---- what is built

pub listed-same : (holder : Option ℕ) (n : ℕ) (table : List Kept) (model : ℕ) → (holder ≡ Some model → ⊥) → kept_at (listed holder n table) model ≡ kept_at table model
listed-same None n table model h = refl
listed-same (Some held) n table model h = kept-other table held model (with_list n (kept_at table held)) (λ e. h (ap Some (sym e)))

pub whole-listed : (l : Loaded) (forest : Forest) (table : List Kept) (flags : List Flags) (built : ℕ) (holder : Option ℕ) (n : ℕ) → IsWithin holder flags → IsWhole l forest table flags built
    → IsWhole l forest (listed holder n table) (all_due_of holder flags) built
whole-listed l forest table flags built holder n within w = record {
  hung = w.hung;
  few = w.few;
  models = λ model less idle.
      subst (IsBuilt (scope_at l forest model) forest.nodes) (sym (listed-same holder n table model (not-held holder flags model within idle)))
      (w.models model less (was-idle holder flags model within idle));
}

-- ---- in the state

module _ (chosen : Chosen) (loaded : Loaded) (forest : Forest) (table : List Kept) (flags : List Flags) (controls : List ControlCopy) (tally : Tally) (many : length table ≡ length flags) where
  abbrev s : State
  s = state_of (standing_of chosen loaded forest table flags controls tally)

  listed-in : (holder : Option ℕ) (n : ℕ) → IsWithin holder flags
      → in_some_model (λ m. all_due (with_list_mark n m)) holder s ≡ state_of (standing_of chosen loaded forest (listed holder n table) (all_due_of holder flags) controls tally)
  listed-in None n within = refl
  listed-in (Some held) n within =
      ap (λ ms. record s { models = ms }) (model-changed (λ m. all_due (with_list_mark n m)) table flags held (with_list n (kept_at table held)) moving.all_due many within refl)

  pub listed-state : (holder : Option ℕ) (n : ℕ) → holder ≡ holder_of loaded.form.tables.instances forest n → IsWithin holder flags
      → list_changed (Some n) s ≡ state_of (standing_of chosen loaded forest (listed holder n table) (all_due_of holder flags) controls tally)
  listed-state holder n held within = ap (λ o. in_some_model (λ m. all_due (with_list_mark n m)) o s) (sym held) ∙ listed-in holder n within
