-- What the last rebuild of each model gave, through each change.
use Rattle.std.proofs.Common.{◌≡◌, ℕ, zero, suc, ◌<◌, Bool, false, List, [], ◌∷◌, map, length, get_or, Option, Some, None, Result, Ok, Err, refl, sym, ap, ◌∙◌, subst, arith}
use Rattle.std.specs.Prelude.{nat_lt}
use Rattle.xf_def_machine.specs.declared.limit.LimitWord.TheVariants.{Edges}
use Rattle.xf_def_syntax.specs.declared.form.Tables.{Tables}
use Rattle.xf_def_forest.specs.Forest.{Forest}
use Rattle.xf_def_forest.specs.Needs.{IsSettable}
use Rattle.xf_def_forest.specs.Shape.{shape_of}
use Rattle.xf_def_forest.specs.Texts.{with_text}
use Rattle.xf_def_forest.proofs.TextLaws.{setting-keeps_shape}
use Rattle.xf_def_model.specs.Applied.{Entry, Exception, applied}
use Rattle.xf_def_model.specs.Circular.{calculated, graph_over}
use Rattle.xf_def_model.specs.Entries.{edge_count}
use Rattle.xf_def_model.specs.Rules.{Scope}
use Rattle.xf_def_machine.specs.Behave.{asked_by_all, by_applied, model_at, no_cycle, no_model, rebuild, rebuilt_with, revalidated_with, unless_cycle, within_edges}
use Rattle.xf_def_machine.specs.Cycles.{reported_cycle}
use Rattle.xf_def_machine.specs.Primitives.{attach, changed_at, copy, detach, in_model, plant, refresh_due, set_text}
use Rattle.xf_def_machine.specs.Profile.{Profile}
use Rattle.xf_def_machine.specs.Refusal.{Refused}
use Rattle.xf_def_machine.specs.State.{Flags, Model, State}
use Rattle.xf_def_machine.specs.Surround.{bind_scope}
use Rattle.xf_def_machine.specs.Update.{all_cleared, no_refresh}
use Rattle.xf_law_machine.proofs.RestLemmas.Holds.{Held, held-is, held-then}
use Rattle.xf_law_machine.proofs.RestLemmas.FlagLaws.{invalid_in, over-held}
use Rattle.xf_law_sessions.specs.Kept.Kept.{AreEntered, HasBinds, HasNodes, IsEntered}
use Rattle.xf_law_sessions.specs.Kept.Changes.{EnteredThroughChanges}
use Rattle.xf_law_sessions.specs.Kept.Stays.{SameForm}
use Rattle.xf_law_sessions.proofs.KeptLemmas.Changing.{After, IsFlagged, IsTold, all-hold, alone-holds, attach-holds, copy-holds, detach-holds, plant-holds, text-holds}
use Rattle.xf_law_sessions.proofs.KeptLemmas.Entered.{entered_elsewhere, entered_shaped}
use Rattle.xf_law_sessions.proofs.KeptLemmas.Surroundings.{scope-beside}

-- ---- as a fact that the part tells

abbrev rebuild_of : Flags → Bool
rebuild_of f = f.rebuild

flagged : IsFlagged rebuild_of
flagged = record { all = refl; refreshed = λ f b. refl }

module _ (p : Profile) (tables : Tables) where
  abbrev R : State → ℕ → Model → Type 0
  R s model m = IsEntered (bind_scope p s model) s.forest.nodes m

  pub other-marks : (s : State) (model : ℕ) (m n : Model) → n.entries ≡ m.entries → n.asked ≡ m.asked → R s model m → R s model n
  other-marks s model m n e a r = record {
    entries = r.entries ∙ ap Ok (sym e);
    no_cycle = ap (λ entries. reported_cycle (graph_over (bind_scope p s model) (shape_of s.forest.nodes) entries)) e ∙ r.no_cycle;
    asked = a ∙ r.asked ∙ ap (edge_count (bind_scope p s model) (shape_of s.forest.nodes)) (sym e);
  }

  told : IsTold tables R
  told = record {
    elsewhere = λ s t model m h stays r. entered_elsewhere p tables s t model m h stays r;
    marks = λ s model m flags texts lists r. other-marks s model m (record m { flags = flags; texts = texts; lists = lists }) refl refl r;
  }

  -- ---- changes of the data

  from-held : (s t : State) (r : Result State Refused) → HasNodes t.forest → Held (After tables R told rebuild_of flagged s) r → r ≡ Ok t → AreEntered p t
  from-held s t r n h e = held-is (After tables R told rebuild_of flagged s) r t h e n

  from-held-one : (s t : State) (m : ℕ) (r : Result (ℕ × State) Refused) → HasNodes t.forest → Held (λ q. After tables R told rebuild_of flagged s q.1) r → r ≡ Ok (m, t) → AreEntered p t
  from-held-one s t m r n h e = held-is (λ (q : ℕ × State). After tables R told rebuild_of flagged s q.1) r (m, t) h e n

  text-here : (n : ℕ) (text : List ℕ) (s : State) → IsSettable n s.forest → HasNodes s.forest → (model : ℕ) (t : State) → SameForm tables s t → t.forest ≡ with_text n text s.forest → model < length s.models
      → (model_at s model).flags.rebuild ≡ false → AreEntered p s → R t model (model_at s model)
  text-here n text s may h model t same is l d k =
      entered_shaped p tables s t model (model_at s model) same (ap (λ (f : Forest). shape_of f.nodes) is ∙ setting-keeps_shape n text s.forest h.trees may) (k model l d)

  -- ---- changes of a model alone

  cleared-at : (ms : List Model) (model : ℕ) → model < length ms → get_or (map no_refresh ms) model no_model ≡ no_refresh (get_or ms model no_model)
  cleared-at [] model h = absurd (omega (arith, h))
  cleared-at (m ∷ ms) zero h = refl
  cleared-at (m ∷ ms) (suc model) h = cleared-at ms model (omega (arith, h))

  cleared-length : (ms : List Model) → length (map no_refresh ms) ≡ length ms
  cleared-length [] = refl
  cleared-length (m ∷ ms) = ap suc (cleared-length ms)

  module _ (s : State) (binds : HasBinds tables s.form) (h : HasNodes s.forest) (k : AreEntered p s) where
    -- that leave what it has of its rebuild, and whether that is due
    one-alone : (change : Model → Model) → ((m : Model) → (change m).entries ≡ m.entries) → ((m : Model) → (change m).asked ≡ m.asked) → ((m : Model) → (change m).flags.rebuild ≡ m.flags.rebuild)
        → (j : ℕ) → AreEntered p (in_model change j s)
    one-alone change e a f j =
        alone-holds tables R told rebuild_of flagged change j s binds h
        (λ l d. other-marks s j (model_at s j) (change (model_at s j)) (e (model_at s j)) (a (model_at s j)) (k j l (sym (f (model_at s j)) ∙ d))) k

    all-alone : AreEntered p (all_cleared s)
    all-alone =
        all-hold tables R told rebuild_of flagged (all_cleared s) s (record { binds = binds; same = refl; before = h; after = h }) (λ model part is. is) (cleared-length s.models)
        (λ model l d g. let is : model_at (all_cleared s) model ≡ no_refresh (model_at s model) = cleared-at s.models model l in
        subst (R s model) (sym is) (other-marks s model (model_at s model) (no_refresh (model_at s model)) refl refl (g model l (ap (λ (m : Model). m.flags.rebuild) (sym is) ∙ d)))) k

    -- ---- a rebuild

    module _ (model : ℕ) (entries : List Entry) (e : applied (bind_scope p s model) s.forest.nodes ≡ Ok entries) where
      abbrev asked : ℕ
      asked = edge_count (bind_scope p s model) (shape_of s.forest.nodes) entries

      abbrev after : State
      after = in_model (rebuilt_with entries asked) model s

      -- the graph of the calculates by what a state has
      abbrev ring : State → Option (List ℕ)
      ring u = reported_cycle (graph_over (bind_scope p u model) (shape_of s.forest.nodes) entries)

      ring-same : ring after ≡ ring s
      ring-same = ap (λ (scope : Scope). reported_cycle (graph_over scope (shape_of s.forest.nodes) entries)) (scope-beside p s (changed_at model (rebuilt_with entries asked) s.models) model)

      entered-after : ring after ≡ None → AreEntered p after
      entered-after i =
          alone-holds tables R told rebuild_of flagged (rebuilt_with entries asked) model s binds h
          (λ l d. record { entries = e; no_cycle = sym ring-same ∙ i; asked = refl }) k

      unless-ring : (o : Option (List ℕ)) → ring after ≡ o → Held (AreEntered p) (unless_cycle after (calculated (bind_scope p after model) (shape_of s.forest.nodes) entries) o after)
      unless-ring None i = entered-after i
      unless-ring (Some places) i = tt

      rebuilt-ok : Held (AreEntered p) (by_applied p model (Ok entries) s)
      rebuilt-ok =
          held-then (λ t. t ≡ after) (AreEntered p) (within_edges p after) (no_cycle p model entries)
          (over-held (λ t. t ≡ after) (nat_lt p.edges (asked_by_all after)) Edges after after (λ i. refl))
          (λ t same. subst (λ (u : State). Held (AreEntered p) (no_cycle p model entries u)) (sym same) (unless-ring (ring after) refl))

    -- what it finds, where it is not refused
    rebuilt-by : (model : ℕ) (found : Result (List Entry) Exception) → applied (bind_scope p s model) s.forest.nodes ≡ found → Held (AreEntered p) (by_applied p model found s)
    rebuilt-by model (Err x) e = tt
    rebuilt-by model (Ok entries) e = rebuilt-ok model entries e

pub entered_changes : EnteredThroughChanges
entered_changes p tables = record {
  text = λ n text s t may h k e.
      from-held p tables s t (set_text p n text s) h.after
      (text-holds tables (R p tables) (told p tables) rebuild_of flagged p n text s h.binds h.before (text-here p tables n text s may h.before) k) e;
  copied = λ n m s t may h k e. from-held-one p tables s t m (copy p n s) h.after (copy-holds tables (R p tables) (told p tables) rebuild_of flagged p n s h.binds may h.before k) e;
  planted = λ contents m s t growth h k e. from-held-one p tables s t m (plant p contents s) h.after (plant-holds tables (R p tables) (told p tables) rebuild_of flagged p contents s h.binds growth h.before k) e;
  attached = λ n parent place s t may h k e. from-held p tables s t (attach p n parent place s) h.after (attach-holds tables (R p tables) (told p tables) rebuild_of flagged p n parent place s h.binds may h.before k) e;
  detached = λ n s t may h k e. from-held p tables s t (Ok (detach n s)) h.after (detach-holds tables (R p tables) (told p tables) rebuild_of flagged n s h.binds may h.before k) e;
  rebuilt = λ model s t may h k e. held-is (AreEntered p) (rebuild p model s) t (rebuilt-by p tables s h.binds h.before k model (applied (bind_scope p s model) s.forest.nodes) refl) e;
  revalidated = λ model s t may h k e. subst (AreEntered p) (ok-same e) (one-alone p tables s h.binds h.before k (revalidated_with (invalid_in p model s)) (λ m. refl) (λ m. refl) (λ m. refl) model);
  refresh_due = λ model s t may h k e. subst (AreEntered p) (ok-same e) (one-alone p tables s h.binds h.before k refresh_due (λ m. refl) (λ m. refl) (λ m. refl) model);
  cleared = λ model s t may h k e. subst (AreEntered p) (ok-same e) (one-alone p tables s h.binds h.before k no_refresh (λ m. refl) (λ m. refl) (λ m. refl) model);
  all_cleared = λ s t may h k e. subst (AreEntered p) (ok-same e) (all-alone p tables s h.binds h.before k);
}
  where
    ok-same : {a b : State} → ◌≡◌ {A = Result State Refused} (Ok a) (Ok b) → a ≡ b
    ok-same e = cc e
