-- What is known of a last recalculation at the end of an event.
use Rattle.std.proofs.Common.{◌≡◌, ℕ, zero, suc, List, [], ◌∷◌, Option, Some, None, refl, sym, ◌∙◌, subst}
use Rattle.xf_def_forest.specs.Forest.{Forest}
use Rattle.xf_binds.specs.Kept.{Kept, committed, rolled_back}
use Rattle.xf_binds.specs.Table.{all_committed, all_rolled_back, kept_at}
use Rattle.xf_form.specs.declared.loaded.Loaded.{Loaded}
use Rattle.xf_engine_state.specs.Known.{HasMarks, Knows}
use Rattle.xf_engine_state.proofs.DroppedLaws.{dropped, dropped-same}
use Rattle.xf_engine_state.proofs.KnownLaws.{knows-marks}
use Rattle.xf_engine_state.proofs.Models.{map-length}

committed-marks : (ks : List Kept) (n : ℕ) → HasMarks (kept_at ks n) (kept_at (all_committed ks) n)
committed-marks [] n = record { stood = refl; texts = refl; lists = refl }
committed-marks (k ∷ ks) zero = record { stood = refl; texts = refl; lists = refl }
committed-marks (k ∷ ks) (suc n) = committed-marks ks n

back-marks : (ks : List Kept) (n : ℕ) → HasMarks (kept_at ks n) (kept_at (all_rolled_back (all_committed ks)) n)
back-marks [] n = record { stood = refl; texts = refl; lists = refl }
back-marks (k ∷ ks) zero = record { stood = refl; texts = refl; lists = refl }
back-marks (k ∷ ks) (suc n) = back-marks ks n

-- what stands is kept: where a recalculation is known no tree is detached, and none is dropped
pub committed-known : (l : Loaded) (forest : Forest) (table : List Kept) (known : Option ℕ) → Knows l forest table known → Knows l (dropped forest) (all_committed table) known × Knows l (dropped forest) (all_rolled_back (all_committed table)) known
committed-known l forest table None k = (tt, tt)
committed-known l forest table (Some model) k =
    let same : dropped forest ≡ forest = dropped-same forest k.alone in (
      subst (λ f. Knows l f (all_committed table) (Some model)) (sym same) (knows-marks l forest table (all_committed table) (Some model) (map-length table committed) (committed-marks table) k),
      subst (λ f. Knows l f (all_rolled_back (all_committed table)) (Some model)) (sym same)
          (knows-marks l forest table (all_rolled_back (all_committed table)) (Some model) (map-length (all_committed table) rolled_back ∙ map-length table committed) (back-marks table) k),
    )
