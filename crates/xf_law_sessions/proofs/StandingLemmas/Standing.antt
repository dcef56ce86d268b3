-- What the behaviours of each model gave, through each change of the data, a rebuild and a revalidation.
use Rattle.std.proofs.Common.{◌≡◌, ℕ, ◌<◌, true, false, List, length, nat_lt, Option, Some, None, Result, Ok, Err, refl, sym, ◌∙◌, subst}
use Rattle.xf_def_syntax.specs.declared.form.Tables.{Tables}
use Rattle.xf_def_forest.specs.Changes.{copied}
use Rattle.xf_def_forest.specs.Forest.{tree_of}
use Rattle.xf_def_forest.specs.Planted.{with_tree}
use Rattle.xf_def_forest.specs.Shape.{shape_of}
use Rattle.xf_def_model.specs.Applied.{Entry, Exception, applied}
use Rattle.xf_def_model.specs.Circular.{Reader, calculated, dependents}
use Rattle.xf_def_model.specs.Entries.{edge_count}
use Rattle.xf_def_machine.specs.declared.limit.LimitWord.TheVariants.{Edges}
use Rattle.xf_def_machine.specs.Behave.{asked_by_all, by_applied, model_at, no_cycle, rebuild, rebuilt_with, revalidated_with, unless_cycle, within_edges}
use Rattle.xf_def_machine.specs.Cycles.{reported_cycle}
use Rattle.xf_def_machine.specs.Primitives.{attach, copy, detach, in_model, plant, refresh_due, set_text}
use Rattle.xf_def_machine.specs.Profile.{Profile}
use Rattle.xf_def_machine.specs.Refusal.{Refused}
use Rattle.xf_def_machine.specs.State.{Model, State}
use Rattle.xf_def_machine.specs.Surround.{bind_scope}
use Rattle.xf_law_machine.specs.Behaviours.Chain.{AreChained, NoneBefore}
use Rattle.xf_law_machine.proofs.BehavioursLemmas.ChainLaws.{chain_laws}
use Rattle.xf_law_machine.proofs.RestLemmas.Holds.{Held, held-is, held-then}
use Rattle.xf_law_machine.proofs.RestLemmas.FlagLaws.{invalid_in, over-held}
use Rattle.xf_law_machine.proofs.RestLemmas.WithinLaws.{grown-by-held}
use Rattle.xf_law_sessions.specs.Kept.Changes.{Passes}
use Rattle.xf_law_sessions.specs.Kept.Kept.{AreEntered}
use Rattle.xf_law_sessions.proofs.KeptLemmas.Changing.{After, Holds, alone-holds, attach-holds, copy-holds, detach-holds, plant-holds, text-holds}
use Rattle.xf_law_sessions.proofs.KeptLemmas.EnteredChanges.{entered_changes, other-marks}
use Rattle.xf_law_sessions.specs.Standing.Standing.{AreStanding, StandingThroughChanges}
use Rattle.xf_law_sessions.proofs.StandingLemmas.Facts.{Recalculated, Revalidated, chained-at, no-rebuild, no-recalculation, recalculated-marks, recalculated-told, recalculation-flagged, recalculation_of, revalidated-marks, revalidated-told, revalidation-flagged, revalidation_of}

cycle-held : (P : State → Type 0) (before : State) (readers : List Reader) (o : Option (List ℕ)) (s : State) → P s → Held P (unless_cycle before readers o s)
cycle-held P before readers None s h = h
cycle-held P before readers (Some places) s h = tt

-- a rebuild that is not refused leaves what the binds set
rebuilds : (P : State → Type 0) (p : Profile) (model : ℕ) (s : State)
    → ((entries : List Entry) → applied (bind_scope p s model) s.forest.nodes ≡ Ok entries → P (in_model (rebuilt_with entries (edge_count (bind_scope p s model) (shape_of s.forest.nodes) entries)) model s))
    → Held P (rebuild p model s)
rebuilds P p model s k = by (applied (bind_scope p s model) s.forest.nodes) refl
  where
    by : (r : Result (List Entry) Exception) → applied (bind_scope p s model) s.forest.nodes ≡ r → Held P (by_applied p model r s)
    by (Err x) e = tt
    by (Ok entries) e =
        let after = in_model (rebuilt_with entries (edge_count (bind_scope p s model) (shape_of s.forest.nodes) entries)) model s in
        held-then P P (within_edges p after) (no_cycle p model entries)
        (over-held P (nat_lt p.edges (asked_by_all after)) Edges after after (λ i. k entries e))
        (λ t h. let readers = calculated (bind_scope p t model) (shape_of t.forest.nodes) entries in
        cycle-held P t readers (reported_cycle (dependents (shape_of t.forest.nodes) readers)) t h)

module _ (p : Profile) (tables : Tables) where
  -- ---- the values, and the validity, with what the rebuild gave

  abbrev pub HoldValues : State → Type 0
  HoldValues s = Holds tables (Recalculated p tables) (recalculated-told p tables) recalculation_of recalculation-flagged s

  abbrev pub HoldValid : State → Type 0
  HoldValid s = Holds tables (Revalidated p tables) (revalidated-told p tables) revalidation_of revalidation-flagged s

  pub values-of : (s : State) → AreStanding p s → HoldValues s
  values-of s h model l d = (h.entered model l (no-rebuild (model_at s model).flags (chained-at s.models model h.chained) d), h.recalculated model l d)

  pub valid-of : (s : State) → AreStanding p s → HoldValid s
  valid-of s h model l d =
      let c = chained-at s.models model h.chained in
      (h.entered model l (no-rebuild (model_at s model).flags c (no-recalculation (model_at s model).flags c d)), h.revalidated model l d)

  standing-of : (t : State) → AreChained t → AreEntered p t → HoldValues t → HoldValid t → AreStanding p t
  standing-of t c e v w = record { chained = c; entered = e; recalculated = λ model l d. (v model l d).1; revalidated = λ model l d. (w model l d).1 }

  -- of a change of the data
  changed : (s t : State) (r : Result State Refused) → Passes tables s t → AreChained t → AreEntered p t
      → Held (After tables (Recalculated p tables) (recalculated-told p tables) recalculation_of recalculation-flagged s) r
      → Held (After tables (Revalidated p tables) (revalidated-told p tables) revalidation_of revalidation-flagged s) r → r ≡ Ok t → AreStanding p t
  changed s t r h c k v w e =
      standing-of t c k
      (held-is (After tables (Recalculated p tables) (recalculated-told p tables) recalculation_of recalculation-flagged s) r t v e h.after)
      (held-is (After tables (Revalidated p tables) (revalidated-told p tables) revalidation_of revalidation-flagged s) r t w e h.after)

  changed-one : (s t : State) (m : ℕ) (r : Result (ℕ × State) Refused) → Passes tables s t → AreEntered p t → AreStanding p s
      → Held (λ q. q.1.models ≡ s.models) r
      → Held (λ q. After tables (Recalculated p tables) (recalculated-told p tables) recalculation_of recalculation-flagged s q.1) r
      → Held (λ q. After tables (Revalidated p tables) (revalidated-told p tables) revalidation_of revalidation-flagged s q.1) r → r ≡ Ok (m, t) → AreStanding p t
  changed-one s t m r h k before same v w e =
      standing-of t (subst (λ (ms : List Model). AreChained (record t { models = ms })) (sym (held-is (λ (q : ℕ × State). q.1.models ≡ s.models) r (m, t) same e)) before.chained) k
      (held-is (λ (q : ℕ × State). After tables (Recalculated p tables) (recalculated-told p tables) recalculation_of recalculation-flagged s q.1) r (m, t) v e h.after)
      (held-is (λ (q : ℕ × State). After tables (Revalidated p tables) (revalidated-told p tables) revalidation_of revalidation-flagged s q.1) r (m, t) w e h.after)

  -- ---- a rebuild

  module _ (model : ℕ) (s : State) (h : AreStanding p s) (entries : List Entry) (e : applied (bind_scope p s model) s.forest.nodes ≡ Ok entries) where
    abbrev count : List Entry → ℕ
    count es = edge_count (bind_scope p s model) (shape_of s.forest.nodes) es

    entries-same : applied (bind_scope p s model) s.forest.nodes ≡ Ok (model_at s model).entries → (model_at s model).entries ≡ entries
    entries-same i = same (sym i ∙ e)
      where
        same : {a b : List Entry} → ◌≡◌ {A = Result (List Entry) Exception} (Ok a) (Ok b) → a ≡ b
        same j = cc j

    rebuilt-values : model < length s.models → (rebuilt_with entries (count entries) (model_at s model)).flags.recalculate ≡ false → Recalculated p tables s model (rebuilt_with entries (count entries) (model_at s model))
    rebuilt-values l d =
        let r = values-of s h model l d in
        subst (λ es. Recalculated p tables s model (rebuilt_with es (count es) (model_at s model))) (entries-same r.0.entries)
        (recalculated-marks p tables s model (model_at s model) (count (model_at s model).entries) (model_at s model).invalid (record (model_at s model).flags { rebuild = false }) (model_at s model).texts (model_at s model).lists
        (sym r.0.asked) r)

    rebuilt-valid : model < length s.models → (rebuilt_with entries (count entries) (model_at s model)).flags.revalidate ≡ false → Revalidated p tables s model (rebuilt_with entries (count entries) (model_at s model))
    rebuilt-valid l d =
        let r = valid-of s h model l d in
        subst (λ es. Revalidated p tables s model (rebuilt_with es (count es) (model_at s model))) (entries-same r.0.entries)
        (revalidated-marks p tables s model (model_at s model) (count (model_at s model).entries) (record (model_at s model).flags { rebuild = false }) (model_at s model).texts (model_at s model).lists (sym r.0.asked) r)

pub standing_changes : StandingThroughChanges
standing_changes p tables = record {
  text = λ n text s t may h k e.
      changed p tables s t (set_text p n text s) h ((chain_laws p).set_text n text s t k.chained e) ((entered_changes p tables).text n text s t may h k.entered e)
      (text-holds tables (Recalculated p tables) (recalculated-told p tables) recalculation_of recalculation-flagged p n text s h.binds h.before (λ model u same is l d g. no-flag d) (values-of p tables s k))
      (text-holds tables (Revalidated p tables) (revalidated-told p tables) revalidation_of revalidation-flagged p n text s h.binds h.before (λ model u same is l d g. no-flag d) (valid-of p tables s k)) e;
  copied = λ n m s t may h k e.
      changed-one p tables s t m (copy p n s) h ((entered_changes p tables).copied n m s t may h k.entered e) k
      (grown-by-held (λ (u : State). u.models ≡ s.models) p (length (tree_of n s.forest.nodes)) (copied p.bounds.limits n s.forest) s (λ one i. refl))
      (copy-holds tables (Recalculated p tables) (recalculated-told p tables) recalculation_of recalculation-flagged p n s h.binds may h.before (values-of p tables s k))
      (copy-holds tables (Revalidated p tables) (revalidated-told p tables) revalidation_of revalidation-flagged p n s h.binds may h.before (valid-of p tables s k)) e;
  planted = λ contents m s t growth h k e.
      changed-one p tables s t m (plant p contents s) h ((entered_changes p tables).planted contents m s t growth h k.entered e) k
      (grown-by-held (λ (u : State). u.models ≡ s.models) p (length contents) (with_tree p.bounds.limits contents s.forest) s (λ one i. refl))
      (plant-holds tables (Recalculated p tables) (recalculated-told p tables) recalculation_of recalculation-flagged p contents s h.binds growth h.before (values-of p tables s k))
      (plant-holds tables (Revalidated p tables) (revalidated-told p tables) revalidation_of revalidation-flagged p contents s h.binds growth h.before (valid-of p tables s k)) e;
  attached = λ n parent place s t may h k e.
      changed p tables s t (attach p n parent place s) h ((chain_laws p).attach n parent place s t k.chained e) ((entered_changes p tables).attached n parent place s t may h k.entered e)
      (attach-holds tables (Recalculated p tables) (recalculated-told p tables) recalculation_of recalculation-flagged p n parent place s h.binds may h.before (values-of p tables s k))
      (attach-holds tables (Revalidated p tables) (revalidated-told p tables) revalidation_of revalidation-flagged p n parent place s h.binds may h.before (valid-of p tables s k)) e;
  detached = λ n s t may h k e.
      changed p tables s t (Ok (detach n s)) h ((chain_laws p).detach n s t k.chained e) ((entered_changes p tables).detached n s t may h k.entered e)
      (detach-holds tables (Recalculated p tables) (recalculated-told p tables) recalculation_of recalculation-flagged n s h.binds may h.before (values-of p tables s k))
      (detach-holds tables (Revalidated p tables) (revalidated-told p tables) revalidation_of revalidation-flagged n s h.binds may h.before (valid-of p tables s k)) e;
  refresh_due = λ model s t may h k e.
      standing-of p tables t ((chain_laws p).refresh_due model s t k.chained e) ((entered_changes p tables).refresh_due model s t may h k.entered e)
      (subst (HoldValues p tables) (ok-same e)
      (alone-holds tables (Recalculated p tables) (recalculated-told p tables) recalculation_of recalculation-flagged refresh_due model s h.binds h.before
      (λ l d. recalculated-marks p tables s model (model_at s model) (model_at s model).asked (model_at s model).invalid (refresh_due (model_at s model)).flags (model_at s model).texts (model_at s model).lists refl
      (values-of p tables s k model l d)) (values-of p tables s k)))
      (subst (HoldValid p tables) (ok-same e)
      (alone-holds tables (Revalidated p tables) (revalidated-told p tables) revalidation_of revalidation-flagged refresh_due model s h.binds h.before
      (λ l d. revalidated-marks p tables s model (model_at s model) (model_at s model).asked (refresh_due (model_at s model)).flags (model_at s model).texts (model_at s model).lists refl (valid-of p tables s k model l d))
      (valid-of p tables s k)));
  rebuilt = λ model s t may h k e.
      standing-of p tables t ((chain_laws p).rebuild model s t k.chained e) ((entered_changes p tables).rebuilt model s t may h k.entered e)
      (held-is (HoldValues p tables) (rebuild p model s) t
      (rebuilds (HoldValues p tables) p model s
      (λ entries i. alone-holds tables (Recalculated p tables) (recalculated-told p tables) recalculation_of recalculation-flagged (rebuilt_with entries (edge_count (bind_scope p s model) (shape_of s.forest.nodes) entries)) model s h.binds h.before
      (rebuilt-values p tables model s k entries i) (values-of p tables s k))) e)
      (held-is (HoldValid p tables) (rebuild p model s) t
      (rebuilds (HoldValid p tables) p model s
      (λ entries i. alone-holds tables (Revalidated p tables) (revalidated-told p tables) revalidation_of revalidation-flagged (rebuilt_with entries (edge_count (bind_scope p s model) (shape_of s.forest.nodes) entries)) model s h.binds h.before
      (rebuilt-valid p tables model s k entries i) (valid-of p tables s k))) e);
  revalidated = λ model s t may h k e.
      standing-of p tables t ((chain_laws p).revalidate model s t may k.chained e) ((entered_changes p tables).revalidated model s t tt h k.entered e)
      (subst (HoldValues p tables) (ok-same e)
      (alone-holds tables (Recalculated p tables) (recalculated-told p tables) recalculation_of recalculation-flagged (revalidated_with (invalid_in p model s)) model s h.binds h.before
      (λ l d. recalculated-marks p tables s model (model_at s model) (model_at s model).asked (invalid_in p model s) (record (model_at s model).flags { revalidate = false }) (model_at s model).texts (model_at s model).lists refl
      (values-of p tables s k model l d)) (values-of p tables s k)))
      (subst (HoldValid p tables) (ok-same e)
      (alone-holds tables (Revalidated p tables) (revalidated-told p tables) revalidation_of revalidation-flagged (revalidated_with (invalid_in p model s)) model s h.binds h.before
      (λ l d. found model s k may l) (valid-of p tables s k)));
}
  where
    ok-same : {a b : State} → ◌≡◌ {A = Result State Refused} (Ok a) (Ok b) → a ≡ b
    ok-same e = cc e

    no-flag : {X : Type 0} → true ≡ false → X
    no-flag e = cc e

    -- what a revalidation finds
    found : (model : ℕ) (s : State) → AreStanding p s → NoneBefore model s → model < length s.models → Revalidated p tables s model (revalidated_with (invalid_in p model s) (model_at s model))
    found model s k may l = (
      other-marks p tables s model (model_at s model) (revalidated_with (invalid_in p model s) (model_at s model)) refl refl (k.entered model l may.rebuild),
      record { invalid = refl },
    )
