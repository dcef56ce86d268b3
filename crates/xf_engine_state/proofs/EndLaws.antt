-- What stands at the end of an event, and what a roll-back gives back.
use Rattle.std.proofs.Common.{◌≡◌, ℕ, zero, suc, ◌<◌, ◌^◌, List, [], ◌∷◌, refl, sym, ap, ◌∙◌, subst}
use Rattle.xf_def_forest.specs.Forest.{Forest}
use Rattle.xf_def_forest.specs.WellFormed.{HasTrees}
use Rattle.xf_def_machine.specs.Step.{at_end}
use Rattle.xf_law_forests.specs.Root.Roots.{AreAhead}
use Rattle.xf_binds.specs.Kept.{Kept, committed, rolled_back}
use Rattle.xf_binds.specs.Table.{all_committed, all_rolled_back, kept_at}
use Rattle.xf_controls.specs.declared.copy.ControlCopy.{ControlCopy}
use Rattle.xf_form.specs.declared.loaded.Loaded.{Loaded}
use Rattle.xf_undo.specs.Draft.{Draft, kept_as}
use Rattle.xf_engine_state.specs.declared.flags.Flags.{Flags}
use Rattle.xf_engine_state.specs.declared.tally.Tally.{Tally}
use Rattle.xf_engine_state.specs.Built.{IsWhole}
use Rattle.xf_def_form.specs.Formed.{profile}
use Rattle.xf_engine_state.specs.Parts.{Chosen, IsSound, standing_of}
use Rattle.xf_engine_state.specs.Standing.{Standing, state_of}
use Rattle.xf_engine_state.specs.Tally.{begun}
use Rattle.xf_engine_state.proofs.DroppedLaws.{dropped, whole-dropped}
use Rattle.xf_engine_state.proofs.Models.{back-again, committed-models, kept-models, map-length}
use Rattle.xf_engine_state.proofs.WholeLaws.{IsSame, built-same}

-- ---- one of the models

committed-at : (ks : List Kept) (n : ℕ) → IsSame (kept_at ks n) (kept_at (all_committed ks) n)
committed-at [] n = record { entries = refl; asks = refl }
committed-at (k ∷ ks) zero = record { entries = refl; asks = refl }
committed-at (k ∷ ks) (suc n) = committed-at ks n

back-at : (ks : List Kept) (n : ℕ) → IsSame (kept_at ks n) (kept_at (all_rolled_back (all_committed ks)) n)
back-at [] n = record { entries = refl; asks = refl }
back-at (k ∷ ks) zero = record { entries = refl; asks = refl }
back-at (k ∷ ks) (suc n) = back-at ks n

whole-as : (l : Loaded) (forest : Forest) (table other : List Kept) (flags : List Flags) (built : ℕ) → ((n : ℕ) → IsSame (kept_at table n) (kept_at other n)) → IsWhole l forest table flags built
    → IsWhole l forest other flags built
whole-as l forest table other flags built same w = record {
  hung = w.hung;
  few = w.few;
  models = λ model less settled. built-same _ forest.nodes (kept_at table model) (kept_at other model) (same model) (w.models model less settled);
}

-- ---- the invariant

module _ (l : Loaded) (draft : Draft) (table : List Kept) (flags old : List Flags) (built old_built : ℕ) (s : IsSound l draft table flags old built old_built) where
  committed-core : IsWhole l (dropped draft.now) table flags built → IsSound l (kept_as (dropped draft.now)) (all_committed table) flags flags built built
  committed-core w = record {
    loaded = s.loaded;
    many = map-length table committed ∙ s.many;
    kept = refl;
    few = s.few;
    now = whole-as l (dropped draft.now) table (all_committed table) flags built (committed-at table) w;
    before = whole-as l (dropped draft.now) table (all_rolled_back (all_committed table)) flags built (back-at table) w;
  }

  pub committed-sound : HasTrees draft.now → HasTrees (dropped draft.now) → draft.now.next < 2 ^ 128 → AreAhead draft.now.nodes → (d : Draft) (t : List Kept) (fs : List Flags) → d ≡ kept_as (dropped draft.now) → t ≡ all_committed table → fs ≡ flags → IsSound l d t flags fs built built
  committed-sound trees trees_after few ahead d t fs drafted tabled flagged =
      subst (λ x. IsSound l x t flags fs built built) (sym drafted)
      (subst (λ x. IsSound l (kept_as (dropped draft.now)) x flags fs built built) (sym tabled)
      (subst (λ x. IsSound l (kept_as (dropped draft.now)) (all_committed table) flags x built built) (sym flagged)
      (committed-core (whole-dropped l draft.now table flags built trees trees_after few ahead s.now))))

  back-core : IsSound l (kept_as draft.kept) (all_rolled_back table) old old old_built old_built
  back-core = record {
    loaded = s.loaded;
    many = map-length table rolled_back ∙ s.many ∙ sym s.kept;
    kept = refl;
    few = subst (λ n. n < 2 ^ 32) (sym s.kept) s.few;
    now = s.before;
    before = subst (λ t. IsWhole l draft.kept t old old_built) (sym (back-again table)) s.before;
  }

  pub back-sound : (d : Draft) (t : List Kept) (fs : List Flags) → d ≡ kept_as draft.kept → t ≡ all_rolled_back table → fs ≡ old → IsSound l d t fs old old_built old_built
  back-sound d t fs drafted tabled flagged =
      subst (λ x. IsSound l x t fs old old_built old_built) (sym drafted)
      (subst (λ x. IsSound l (kept_as draft.kept) x fs old old_built old_built) (sym tabled)
      (subst (λ x. IsSound l (kept_as draft.kept) (all_rolled_back table) x old old_built old_built) (sym flagged) back-core))

-- ---- the states

module _ (chosen : Chosen) (l : Loaded) (forest : Forest) (table : List Kept) (flags : List Flags) (controls : List ControlCopy) (tally : Tally) where
  abbrev before : Standing
  before = standing_of chosen l forest table flags controls tally

  pub committed-state : (d : Draft) (t : List Kept) (u : Tally) → d ≡ kept_as (dropped forest) → t ≡ all_committed table → u ≡ begun tally
      → state_of (standing_of chosen l d.now t flags controls u) ≡ at_end profile (state_of before)
  committed-state d t u drafted tabled tallied =
      ap (λ (x : Draft). state_of (standing_of chosen l x.now t flags controls u)) drafted
      ∙ ap (λ x. state_of (standing_of chosen l (dropped forest) x flags controls u)) tabled
      ∙ ap (λ x. state_of (standing_of chosen l (dropped forest) (all_committed table) flags controls x)) tallied
      ∙ ap (λ ms. record (at_end profile (state_of before)) { models = ms }) (committed-models table flags)

  -- what is kept is what stands
  pub committed-kept : (d : Draft) (t : List Kept) (fs : List Flags) (u : Tally) → d ≡ kept_as (dropped forest) → t ≡ all_committed table → fs ≡ flags
      → standing_of chosen l d.kept (all_rolled_back t) fs controls u ≡ standing_of chosen l d.now t flags controls u
  committed-kept d t fs u drafted tabled flagged =
      ap (λ (x : Draft). standing_of chosen l x.kept (all_rolled_back t) fs controls u) drafted
      ∙ ap (λ x. standing_of chosen l (dropped forest) (all_rolled_back x) fs controls u) tabled
      ∙ ap (λ x. standing_of chosen l (dropped forest) (all_rolled_back (all_committed table)) x controls u) flagged
      ∙ ap (λ ms. record (standing_of chosen l (dropped forest) (all_committed table) flags controls u) { models = ms }) (kept-models table flags)
      ∙ ap (λ x. standing_of chosen l (dropped forest) x flags controls u) (sym tabled)
      ∙ ap (λ (x : Draft). standing_of chosen l x.now t flags controls u) (sym drafted)

-- what was kept is kept after a roll-back
pub back-kept : (chosen : Chosen) (l : Loaded) (table : List Kept) (flags : List Flags) (controls : List ControlCopy) (tally : Tally) (d e : Draft) (t : List Kept) → d ≡ kept_as e.kept → t ≡ all_rolled_back table
    → standing_of chosen l d.kept (all_rolled_back t) flags controls tally ≡ standing_of chosen l e.kept (all_rolled_back table) flags controls tally
back-kept chosen l table flags controls tally d e t drafted tabled =
    ap (λ (x : Draft). standing_of chosen l x.kept (all_rolled_back t) flags controls tally) drafted
    ∙ ap (λ x. standing_of chosen l e.kept (all_rolled_back x) flags controls tally) tabled
    ∙ ap (λ x. standing_of chosen l e.kept x flags controls tally) (back-again table)
