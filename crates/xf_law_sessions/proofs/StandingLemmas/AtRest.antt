-- At the end of an event nothing is due, and dropping the detached trees leaves the part of each model.
use Rattle.std.proofs.Common.{◌≡◌, ℕ, zero, suc, ◌+◌, ◌<◌, Bool, true, false, ◌||◌, List, [], ◌∷◌, length, get_or, refl, arith}
use Rattle.std.specs.List.{list_any}
use Rattle.xf_def_syntax.specs.declared.form.Tables.{Tables}
use Rattle.xf_def_forest.specs.Changes.{in_instances}
use Rattle.xf_law_forests.specs.Root.Roots.{AreAhead}
use Rattle.xf_law_invariants.proofs.TreeLemmas.Come.{tree_laws}
use Rattle.xf_def_model.specs.Pertinent.{AllOf}
use Rattle.xf_law_recalculation.proofs.AgreeLemmas.HungChanges.{hung_instances}
use Rattle.xf_law_recalculation.proofs.ElsewhereLemmas.Stays.{part_stays_dropped}
use Rattle.xf_def_machine.specs.Behave.{model_at, no_model}
use Rattle.xf_def_machine.specs.Cycles.{counted_from}
use Rattle.xf_def_machine.specs.Profile.{Profile}
use Rattle.xf_def_machine.specs.State.{Model, State}
use Rattle.xf_def_machine.specs.Update.{has_flag, is_due}
use Rattle.xf_law_sessions.specs.Kept.Kept.{HasBinds, HasNodes}
use Rattle.xf_law_sessions.specs.Kept.Stays.{PartStays, SameForm}
use Rattle.xf_law_sessions.proofs.KeptLemmas.Changing.{same-models}
use Rattle.xf_law_sessions.specs.Standing.AtRest.{ModelStands, StandAtRest, dropped}
use Rattle.xf_law_sessions.specs.Standing.Standing.{AreStanding}
use Rattle.xf_law_sessions.proofs.StandingLemmas.Facts.{Recalculated, Revalidated, recalculated-told, recalculation-flagged, recalculation_of, revalidated-told, revalidation-flagged, revalidation_of}
use Rattle.xf_law_sessions.proofs.StandingLemmas.Standing.{valid-of, values-of}

-- ---- lists

counted-all : (P : ℕ → Type 0) (from count : ℕ) → ((k : ℕ) → k < from + count → P k) → AllOf P (counted_from from count)
counted-all P from zero f = tt
counted-all P from (suc count) f = (f from (omega arith), counted-all P (suc from) count (λ k h. f k (omega (arith, h))))

or-none : (a b : Bool) → (a || b) ≡ false → (a ≡ false) × (b ≡ false)
or-none true b h = cc h
or-none false b h = (refl, h)

none-due : (ms : List Model) (k : ℕ) → list_any (λ m. has_flag m.flags) ms ≡ false → has_flag (get_or ms k no_model).flags ≡ false
none-due [] k h = refl
none-due (m ∷ ms) zero h = (or-none (has_flag m.flags) (list_any (λ x. has_flag x.flags) ms) h).0
none-due (m ∷ ms) (suc k) h = none-due ms k (or-none (has_flag m.flags) (list_any (λ x. has_flag x.flags) ms) h).1

no-recalculate : (a b c d : Bool) → (a || b || c || d) ≡ false → b ≡ false
no-recalculate true b c d h = cc h
no-recalculate false true c d h = cc h
no-recalculate false false c d h = refl

no-revalidate : (a b c d : Bool) → (a || b || c || d) ≡ false → c ≡ false
no-revalidate true b c d h = cc h
no-revalidate false true c d h = cc h
no-revalidate false false true d h = cc h
no-revalidate false false false d h = refl

-- ---- the end

module _ (p : Profile) (tables : Tables) (s : State) (binds : HasBinds tables s.form) (h : HasNodes s.forest) (ahead : AreAhead s.forest.nodes) (rests : is_due s ≡ false) (k : AreStanding p s) where
  after : HasNodes (record s.forest { nodes = in_instances s.forest.nodes })
  after = record { trees = tree_laws.dropped s.forest h.trees; hung = hung_instances s.forest.nodes h.hung; few = h.few }

  same : SameForm tables s (dropped s)
  same = record { binds = binds; same = refl; before = h; after = after }

  stays : (model : ℕ) → PartStays s.form.instances model s.forest (dropped s).forest
  stays model part is = part_stays_dropped s.form.instances model s.forest.next part s.forest is h.trees ahead

  flags : (model : ℕ) → has_flag (model_at s model).flags ≡ false
  flags model = none-due s.models model rests

  stands : (model : ℕ) → model < length s.models → ModelStands p (dropped s) model
  stands model l =
      let f = (model_at s model).flags in
      let v = same-models tables (Recalculated p tables) (recalculated-told p tables) recalculation_of recalculation-flagged s (dropped s) same refl stays (values-of p tables s k) model l
      (no-recalculate f.rebuild f.recalculate f.revalidate f.refresh (flags model)) in
      let w = same-models tables (Revalidated p tables) (revalidated-told p tables) revalidation_of revalidation-flagged s (dropped s) same refl stays (valid-of p tables s k) model l
      (no-revalidate f.rebuild f.recalculate f.revalidate f.refresh (flags model)) in
      record {
        entries = v.0.entries;
        no_cycle = v.0.no_cycle;
        asked = v.0.asked;
        settled = v.1.contents;
        strings = v.1.strings;
        texts = v.1.texts;
        values = v.1.values;
        invalid = w.1.invalid;
      }

pub stand_at_rest : StandAtRest
stand_at_rest p tables s binds h ahead rests k =
    counted-all (ModelStands p (dropped s)) 0 (length s.models) (λ model l. stands p tables s binds h ahead rests k model (let m : model < length s.models = omega (arith, l) in m))
