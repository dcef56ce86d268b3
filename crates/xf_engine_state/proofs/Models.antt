-- The models of a state, by what a table keeps of each and what is due of it.
use Rattle.std.proofs.Common.{◌≡◌, ℕ, zero, suc, ◌<◌, Bool, true, false, List, [], ◌∷◌, map, length, get_or, refl, ap, ◌∙◌, arith}
use Rattle.std.specs.Prelude.{slice_set, ◌||◌}
use Rattle.std.specs.List.{list_any}
use Rattle.xf_def_machine.specs.State as machine
use Rattle.xf_def_machine.specs.State.{Model}
use Rattle.xf_def_machine.specs.Primitives.{changed_at, refresh_due}
use Rattle.xf_def_machine.specs.Behave.{no_model}
use Rattle.xf_def_machine.specs.Update.{no_refresh}
use Rattle.xf_binds.specs.Kept.{Kept, committed, no_kept, rolled_back}
use Rattle.xf_binds.specs.Asked.{asked_of}
use Rattle.xf_engine_state.specs.declared.flags.Flags.{Flags}
use Rattle.xf_engine_state.specs.Flags.{flags_of, none_due, with_refresh, without_refresh}
use Rattle.xf_eval_context.specs.declared.indexes.Index.{Index}
use Rattle.xf_engine_state.specs.Parts.{chosen_of, model_of, models_of}

pub models-length : (ks : List Kept) (fs : List Flags) → length ks ≡ length fs → length (models_of ks fs) ≡ length fs
models-length [] [] e = refl
models-length [] (f ∷ fs) e = absurd (omega (arith, e))
models-length (k ∷ ks) [] e = absurd (omega (arith, e))
models-length (k ∷ ks) (f ∷ fs) e = ap suc (models-length ks fs (omega (arith, e)))

-- one of the models
pub model-at : (ks : List Kept) (fs : List Flags) (n : ℕ) → length ks ≡ length fs → n < length fs
    → get_or (models_of ks fs) n no_model ≡ model_of (get_or ks n no_kept) (get_or fs n none_due)
model-at ks [] n e h = absurd (omega arith)
model-at [] (f ∷ fs) n e h = absurd (omega (arith, e))
model-at (k ∷ ks) (f ∷ fs) zero e h = refl
model-at (k ∷ ks) (f ∷ fs) (suc n) e h = model-at ks fs n (omega (arith, e)) (omega (arith, h))

-- one of them is another
pub model-changed : (change : Model → Model) (ks : List Kept) (fs : List Flags) (n : ℕ) (k : Kept) (f : Flags) → length ks ≡ length fs → n < length fs
    → change (model_of (get_or ks n no_kept) (get_or fs n none_due)) ≡ model_of k f
    → changed_at n change (models_of ks fs) ≡ models_of (slice_set ks n k) (slice_set fs n f)
model-changed change ks [] n k f e h c = absurd (omega arith)
model-changed change [] (g ∷ fs) n k f e h c = absurd (omega (arith, e))
model-changed change (j ∷ ks) (g ∷ fs) zero k f e h c = ap (λ m. m ∷ models_of ks fs) c
model-changed change (j ∷ ks) (g ∷ fs) (suc n) k f e h c = ap (λ ms. model_of j g ∷ ms) (model-changed change ks fs n k f (omega (arith, e)) (omega (arith, h)) c)

-- one of them has other flags: where there is no such one, none has
pub flags-changed : (change : Model → Model) (due : Flags → Flags) → ((k : Kept) (f : Flags) → change (model_of k f) ≡ model_of k (due f)) → (ks : List Kept) (fs : List Flags) (n : ℕ)
    → changed_at n change (models_of ks fs) ≡ models_of ks (slice_set fs n (due (get_or fs n none_due)))
flags-changed change due e [] fs n = refl
flags-changed change due e (k ∷ ks) [] n = refl
flags-changed change due e (k ∷ ks) (f ∷ fs) zero = ap (λ m. m ∷ models_of ks fs) (e k f)
flags-changed change due e (k ∷ ks) (f ∷ fs) (suc n) = ap (λ ms. model_of k f ∷ ms) (flags-changed change due e ks fs n)

pub refresh-due : (ks : List Kept) (fs : List Flags) (n : ℕ) → changed_at n refresh_due (models_of ks fs) ≡ models_of ks (slice_set fs n (with_refresh true (get_or fs n none_due)))
refresh-due ks fs n = flags-changed refresh_due (with_refresh true) (λ k f. refl) ks fs n

pub refresh-cleared : (ks : List Kept) (fs : List Flags) (n : ℕ) → changed_at n no_refresh (models_of ks fs) ≡ models_of ks (slice_set fs n (with_refresh false (get_or fs n none_due)))
refresh-cleared ks fs n = flags-changed no_refresh (with_refresh false) (λ k f. refl) ks fs n

-- of what is due of one of them
pub any-due : (test : machine.Flags → Bool) (ks : List Kept) (fs : List Flags) → length ks ≡ length fs
    → list_any (λ (m : Model). test m.flags) (models_of ks fs) ≡ list_any (λ f. test (flags_of f)) fs
any-due test [] [] e = refl
any-due test [] (f ∷ fs) e = absurd (omega (arith, e))
any-due test (k ∷ ks) [] e = absurd (omega (arith, e))
any-due test (k ∷ ks) (f ∷ fs) e = ap (λ b. test (flags_of f) || b) (any-due test ks fs (omega (arith, e)))

pub none-refreshed : (ks : List Kept) (fs : List Flags) → length ks ≡ length fs → map no_refresh (models_of ks fs) ≡ models_of ks (map without_refresh fs)
none-refreshed [] [] e = refl
none-refreshed [] (f ∷ fs) e = refl
none-refreshed (k ∷ ks) [] e = refl
none-refreshed (k ∷ ks) (f ∷ fs) e = ap (λ ms. model_of k (without_refresh f) ∷ ms) (none-refreshed ks fs (omega (arith, e)))

-- each asks what the table has of it
pub asked-same : (ks : List Kept) (fs : List Flags) → length ks ≡ length fs → map (λ (m : Model). m.asked) (models_of ks fs) ≡ map (λ (k : Kept). asked_of k.asks) ks
asked-same [] fs e = refl
asked-same (k ∷ ks) [] e = absurd (omega (arith, e))
asked-same (k ∷ ks) (f ∷ fs) e = ap (λ ns. asked_of k.asks ∷ ns) (asked-same ks fs (omega (arith, e)))

-- ---- what is kept of each

pub set-length : (ks : List Kept) (n : ℕ) (k : Kept) → length (slice_set ks n k) ≡ length ks
set-length [] n k = refl
set-length (j ∷ ks) zero k = refl
set-length (j ∷ ks) (suc n) k = ap suc (set-length ks n k)

pub flags-length : (fs : List Flags) (n : ℕ) (f : Flags) → length (slice_set fs n f) ≡ length fs
flags-length [] n f = refl
flags-length (g ∷ fs) zero f = refl
flags-length (g ∷ fs) (suc n) f = ap suc (flags-length fs n f)

pub map-length : (ks : List Kept) (change : Kept → Kept) → length (map change ks) ≡ length ks
map-length [] change = refl
map-length (k ∷ ks) change = ap suc (map-length ks change)

pub flags-map : (fs : List Flags) (change : Flags → Flags) → length (map change fs) ≡ length fs
flags-map [] change = refl
flags-map (f ∷ fs) change = ap suc (flags-map fs change)

-- another is kept of one of them now, and the same as it was
pub back-same : (ks : List Kept) (n : ℕ) (k : Kept) → n < length ks → rolled_back k ≡ rolled_back (get_or ks n no_kept) → map rolled_back (slice_set ks n k) ≡ map rolled_back ks
back-same [] n k h e = absurd (omega (arith, h))
back-same (j ∷ ks) zero k h e = ap (λ b. b ∷ map rolled_back ks) e
back-same (j ∷ ks) (suc n) k h e = ap (λ bs. rolled_back j ∷ bs) (back-same ks n k (omega (arith, h)) e)

pub committed-models : (ks : List Kept) (fs : List Flags) → models_of (map committed ks) fs ≡ models_of ks fs
committed-models [] fs = refl
committed-models (k ∷ ks) [] = refl
committed-models (k ∷ ks) (f ∷ fs) = ap (λ ms. model_of k f ∷ ms) (committed-models ks fs)

pub kept-models : (ks : List Kept) (fs : List Flags) → models_of (map rolled_back (map committed ks)) fs ≡ models_of (map committed ks) fs
kept-models [] fs = refl
kept-models (k ∷ ks) [] = refl
kept-models (k ∷ ks) (f ∷ fs) = ap (λ ms. model_of k f ∷ ms) (kept-models ks fs)

pub back-again : (ks : List Kept) → map rolled_back (map rolled_back ks) ≡ map rolled_back ks
back-again [] = refl
back-again (k ∷ ks) = ap (λ bs. rolled_back k ∷ bs) (back-again ks)

-- ---- what is chosen

pub chosen-same : (is js : List Index) (cs ds : List ℕ) → is ≡ js → cs ≡ ds → chosen_of is cs ≡ chosen_of js ds
chosen-same is js cs ds e h = ap (λ x. chosen_of x cs) e ∙ ap (chosen_of js) h
