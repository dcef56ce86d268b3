-- What a recalculation and a revalidation gave, each with what the rebuild before it gave, as facts that the part of a model tells.
use Rattle.std.proofs.Common.{◌≡◌, ℕ, zero, suc, Bool, true, false, List, [], ◌∷◌, get_or, refl, sym, ◌∙◌}
use Rattle.xf_def_syntax.specs.declared.form.Tables.{Tables}
use Rattle.xf_def_model.specs.Pertinent.{AllOf}
use Rattle.xf_def_machine.specs.Behave.{no_model}
use Rattle.xf_def_machine.specs.Profile.{Profile}
use Rattle.xf_def_machine.specs.State.{Flags, Model, State}
use Rattle.xf_def_machine.specs.Surround.{bind_scope}
use Rattle.xf_law_machine.specs.Behaviours.Chain.{IsChained}
use Rattle.xf_law_sessions.specs.Kept.Kept.{IsEntered}
use Rattle.xf_law_sessions.specs.Kept.Settled.{IsRecalculated}
use Rattle.xf_law_sessions.specs.Kept.Valid.{IsRevalidated}
use Rattle.xf_law_sessions.proofs.KeptLemmas.Changing.{IsFlagged, IsTold}
use Rattle.xf_law_sessions.proofs.KeptLemmas.Entered.{entered_elsewhere}
use Rattle.xf_law_sessions.proofs.KeptLemmas.EnteredChanges.{other-marks}
use Rattle.xf_law_sessions.proofs.KeptLemmas.Recalculated.{recalculated_elsewhere}
use Rattle.xf_law_sessions.proofs.KeptLemmas.Revalidated.{revalidated_elsewhere}

abbrev pub recalculation_of : Flags → Bool
recalculation_of f = f.recalculate

abbrev pub revalidation_of : Flags → Bool
revalidation_of f = f.revalidate

pub recalculation-flagged : IsFlagged recalculation_of
recalculation-flagged = record { all = refl; refreshed = λ f b. refl }

pub revalidation-flagged : IsFlagged revalidation_of
revalidation-flagged = record { all = refl; refreshed = λ f b. refl }

-- ---- the flags of one model

pub chained-at : (ms : List Model) (k : ℕ) → AllOf (λ m. IsChained m.flags) ms → IsChained (get_or ms k no_model).flags
chained-at [] k h = record { rebuild = λ i. cc; recalculate = λ i. cc; revalidate = λ i. cc }
chained-at (m ∷ ms) zero h = h.0
chained-at (m ∷ ms) (suc k) h = chained-at ms k h.1

not-due : (a b : Bool) → (a ≡ true → b ≡ true) → b ≡ false → a ≡ false
not-due true b h e = cc (sym (h refl) ∙ e)
not-due false b h e = refl

pub no-rebuild : (f : Flags) → IsChained f → f.recalculate ≡ false → f.rebuild ≡ false
no-rebuild f h e = not-due f.rebuild f.recalculate h.rebuild e

pub no-recalculation : (f : Flags) → IsChained f → f.revalidate ≡ false → f.recalculate ≡ false
no-recalculation f h e = not-due f.recalculate f.revalidate h.recalculate e

-- ---- facts

module _ (p : Profile) (tables : Tables) where
  abbrev pub Entered : State → ℕ → Model → Type 0
  Entered s model m = IsEntered (bind_scope p s model) s.forest.nodes m

  abbrev pub Recalculated : State → ℕ → Model → Type 0
  Recalculated s model m = Entered s model m × IsRecalculated p s model m

  abbrev pub Revalidated : State → ℕ → Model → Type 0
  Revalidated s model m = Entered s model m × IsRevalidated p s model m

  -- of a model that has the same entries and values
  pub recalculated-marks : (s : State) (model : ℕ) (m : Model) (asked : ℕ) (invalid : List ℕ) (flags : Flags) (texts lists : List ℕ) → asked ≡ m.asked → Recalculated s model m
      → Recalculated s model (record m { asked = asked; invalid = invalid; flags = flags; texts = texts; lists = lists })
  recalculated-marks s model m asked invalid flags texts lists e r = (
    other-marks p tables s model m (record m { asked = asked; invalid = invalid; flags = flags; texts = texts; lists = lists }) refl e r.0,
    record { contents = r.1.contents; strings = r.1.strings; texts = r.1.texts; values = r.1.values },
  )

  pub revalidated-marks : (s : State) (model : ℕ) (m : Model) (asked : ℕ) (flags : Flags) (texts lists : List ℕ) → asked ≡ m.asked → Revalidated s model m
      → Revalidated s model (record m { asked = asked; flags = flags; texts = texts; lists = lists })
  revalidated-marks s model m asked flags texts lists e r = (
    other-marks p tables s model m (record m { asked = asked; flags = flags; texts = texts; lists = lists }) refl e r.0,
    record { invalid = r.1.invalid },
  )

  pub recalculated-told : IsTold tables Recalculated
  recalculated-told = record {
    elsewhere = λ s t model m h stays r. (entered_elsewhere p tables s t model m h stays r.0, recalculated_elsewhere p tables s t model m h stays r.0 r.1);
    marks = λ s model m flags texts lists r. recalculated-marks s model m m.asked m.invalid flags texts lists refl r;
  }

  pub revalidated-told : IsTold tables Revalidated
  revalidated-told = record {
    elsewhere = λ s t model m h stays r. (entered_elsewhere p tables s t model m h stays r.0, revalidated_elsewhere p tables s t model m h stays r.1);
    marks = λ s model m flags texts lists r. revalidated-marks s model m m.asked flags texts lists refl r;
  }
