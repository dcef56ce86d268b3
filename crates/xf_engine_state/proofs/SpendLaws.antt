-- A turn that is spent of what is counted is spent of the state.
use Rattle.std.proofs.Common.{◌≡◌, ℕ, zero, suc, List, [], Some, None, Ok, Err, refl, ap}
use Rattle.xf_def_forest.specs.Forest.{Forest}
use Rattle.xf_def_machine.specs.Primitives as machine
use Rattle.xf_def_machine.specs.Refusal.{budget}
use Rattle.xf_binds.specs.Kept.{Kept}
use Rattle.xf_controls.specs.declared.copy.ControlCopy.{ControlCopy}
use Rattle.xf_form.specs.declared.loaded.Loaded.{Loaded}
use Rattle.xf_engine_state.specs.declared.flags.Flags.{Flags}
use Rattle.xf_engine_state.specs.declared.tally.Tally.{Tally}
use Rattle.xf_engine_state.specs.Parts.{Chosen, standing_of}
use Rattle.xf_engine_state.specs.Standing.{state_of}
use Rattle.xf_engine_state.specs.Tally.{spent, spent_from}

some-tally : (t u : Tally) → Some t ≡ Some u → t ≡ u
some-tally t u e = cc e

module _ (chosen : Chosen) (loaded : Loaded) (forest : Forest) (table : List Kept) (flags : List Flags) (controls : List ControlCopy) (t : Tally) where
  pub spent-some : (u : Tally) → spent t ≡ Some u → machine.spend (state_of (standing_of chosen loaded forest table flags controls t)) ≡ Ok (state_of (standing_of chosen loaded forest table flags controls u))
  spent-some u e = by t.turns e
    where
      by : (n : ℕ) → spent_from n t ≡ Some u → machine.spent_from n (state_of (standing_of chosen loaded forest table flags controls t)) ≡ Ok (state_of (standing_of chosen loaded forest table flags controls u))
      by zero i = cc i
      by (suc left) i = ap (λ v. Ok (state_of (standing_of chosen loaded forest table flags controls v))) (some-tally (record t { turns = left }) u i)

  pub spent-none : spent t ≡ None → machine.spend (state_of (standing_of chosen loaded forest table flags controls t)) ≡ Err (record { why = budget; calls = [] })
  spent-none e = by t.turns e
    where
      by : (n : ℕ) → spent_from n t ≡ None → machine.spent_from n (state_of (standing_of chosen loaded forest table flags controls t)) ≡ Err (record { why = budget; calls = [] })
      by zero i = refl
      by (suc left) i = cc i
