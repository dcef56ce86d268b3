-- What an engine works on stays sound where a text was set and its node is marked.
use Rattle.std.proofs.Common.{◌≡◌, ℕ, zero, suc, Bool, true, false, List, [], ◌∷◌, map, length, get_or, Option, Some, None, refl, sym, ap, subst, inl, inr}
use Rattle.std.specs.Prelude.{slice_set}
use Rattle.std.proofs.lemmas.Bool.{cases_lt}
use Rattle.xf_def_forest.specs.Needs.{IsSettable}
use Rattle.xf_def_forest.specs.Texts.{with_text}
use Rattle.xf_def_forest.specs.WellFormed.{HasTrees}
use Rattle.xf_binds.specs.Kept.{Kept, no_kept, rolled_back}
use Rattle.xf_binds.specs.Table.{all_rolled_back, kept_at}
use Rattle.xf_form.specs.declared.loaded.Loaded.{Loaded}
use Rattle.xf_undo.specs.Draft.{Draft, changed}
use Rattle.xf_engine_state.specs.declared.flags.Flags.{Flags}
use Rattle.xf_engine_state.specs.Flags.{none_due, with_texts}
use Rattle.xf_engine_state.specs.Parts.{IsSound}
use Rattle.xf_engine_state.specs.Setting.{due, mark_if, marked}
use Rattle.xf_engine_state.specs.Settling.{StaysWhole}
use Rattle.xf_engine_state.proofs.Models.{flags-length, set-length}
use Rattle.xf_engine_state.proofs.SetLaws.{set-past}
use Rattle.xf_engine_state.proofs.SoundLaws.{sound-flags, sound-kept}
use Rattle.xf_engine_state.proofs.WholeLaws.{IsSame, KeepsDue, set-keeps, text-stays}

-- ---- marks and flags

pub due-length : (holder : Option ℕ) (flags : List Flags) → length (due holder flags) ≡ length flags
due-length None flags = refl
due-length (Some model) flags = flags-length flags model (with_texts (get_or flags model none_due))

pub marked-length : (holder : Option ℕ) (other : Bool) (n : ℕ) (table : List Kept) → length (marked holder other n table) ≡ length table
marked-length None other n table = refl
marked-length (Some model) other n table = set-length table model (mark_if other n (kept_at table model))

back-set : (ks : List Kept) (model : ℕ) (k : Kept) → rolled_back k ≡ rolled_back (get_or ks model no_kept) → all_rolled_back (slice_set ks model k) ≡ all_rolled_back ks
back-set [] model k e = refl
back-set (j ∷ ks) zero k e = ap (λ b. b ∷ map rolled_back ks) e
back-set (j ∷ ks) (suc model) k e = ap (λ bs. rolled_back j ∷ bs) (back-set ks model k e)

mark-back : (other : Bool) (n : ℕ) (k : Kept) → rolled_back (mark_if other n k) ≡ rolled_back k
mark-back true n k = refl
mark-back false n k = refl

mark-same : (other : Bool) (n : ℕ) (k : Kept) → IsSame k (mark_if other n k)
mark-same true n k = record { entries = refl; asks = refl }
mark-same false n k = record { entries = refl; asks = refl }

pub marked-back : (holder : Option ℕ) (other : Bool) (n : ℕ) (table : List Kept) → all_rolled_back (marked holder other n table) ≡ all_rolled_back table
marked-back None other n table = refl
marked-back (Some model) other n table = back-set table model (mark_if other n (kept_at table model)) (mark-back other n (kept_at table model))

-- ---- the invariant

pub text-whole : (l : Loaded) (d e : Draft) (n : ℕ) (text : List ℕ) → HasTrees d.now → HasTrees e.now → IsSettable n d.now → e ≡ changed d (with_text n text d.now) → StaysWhole l d.now e.now
text-whole l d e n text before after able is =
    let now : e.now ≡ with_text n text d.now = ap (λ (x : Draft). x.now) is in
    subst (StaysWhole l d.now) (sym now) (text-stays l d.now n text before (subst HasTrees now after) able)

due-keeps : (holder : Option ℕ) (flags : List Flags) → KeepsDue flags (due holder flags)
due-keeps None flags = λ model h. h
due-keeps (Some model) flags = set-keeps flags model (with_texts (get_or flags model none_due)) refl

module _ (l : Loaded) (d : Draft) (table : List Kept) (flags olds : List Flags) (built old_built : ℕ) (s : IsSound l d table flags olds built old_built) where
  table-marked : (holder : Option ℕ) (other : Bool) (n : ℕ) → IsSound l d (marked holder other n table) flags olds built old_built
  table-marked None other n = s
  table-marked (Some model) other n = elim (cases_lt model (length table)) [
    | inl less ↦
        sound-kept l d table flags olds built old_built s model (mark_if other n (kept_at table model)) less (mark-same other n (kept_at table model)) (mark-back other n (kept_at table model))
    | inr past ↦ subst (λ t. IsSound l d t flags olds built old_built) (sym (set-past table model (mark_if other n (kept_at table model)) past)) s
  ]

  pub sound-marked : (holder : Option ℕ) (other : Bool) (n : ℕ) → IsSound l d (marked holder other n table) (due holder flags) olds built old_built
  sound-marked holder other n =
      sound-flags l d (marked holder other n table) flags olds built old_built (table-marked holder other n) (due holder flags) (due-length holder flags) (due-keeps holder flags)
