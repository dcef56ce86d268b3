-- The changes that all others are made of, behaviours and updates, over a state and the same one with other numbers.
use Rattle.std.proofs.Common.{◌≡◌, ℕ, zero, suc, Bool, ◌||◌, List, [], ◌∷◌, ◌++◌, map, length, nat_lt, Option, Some, None, Result, Ok, Err, refl, ap, ◌∙◌}
use Rattle.std.specs.List.{list_any}
use Rattle.xf_def_forest.specs.Limits.{passed_by_text, unless}
use Rattle.xf_def_forest.specs.Changes.{attached}
use Rattle.xf_def_forest.specs.Texts.{with_text, new_texts}
use Rattle.xf_def_forest.specs.Visit.{parent_of}
use Rattle.xf_def_ui.specs.Copies.{Copy}
use Rattle.xf_def_ui.specs.Index.{Index, Stop, brought_up}
use Rattle.xf_def_ui.specs.Notifications.{notifications}
use Rattle.xf_def_machine.specs.declared.limit.LimitWord.{LimitWord}
use Rattle.xf_def_machine.specs.declared.note.Note.{Note}
use Rattle.xf_def_machine.specs.Profile.{Profile}
use Rattle.xf_def_machine.specs.Program.{Program}
use Rattle.xf_def_machine.specs.State.{Flags, Model, State}
use Rattle.xf_def_machine.specs.Refusal.{Refused, unless_passed, if_over}
use Rattle.xf_def_machine.specs.NoteLines.{notes_size}
use Rattle.xf_def_machine.specs.declared.limit.LimitWord.TheVariants.{Notes}
use Rattle.xf_def_machine.specs.Flow.{Run, ◌>>=◌, when, in_turn}
use Rattle.xf_def_machine.specs.Surround.{interface, all_in, model_holding, quiet}
use Rattle.xf_def_machine.specs.Primitives.{spent_from, spend, in_some_model, all_due, texts_due, with_text_mark, with_list_mark, list_changed, set_text, attach, detach, is_other_text, if_other, add_note}
use Rattle.xf_def_machine.specs.Cycles.{counted_from}
use Rattle.xf_def_machine.specs.Behave.{model_at, rebuild, recalculate, revalidate}
use Rattle.xf_def_machine.specs.Update.{no_refresh, with_brought, reindex, shown, refresh, refresh_cleared, all_cleared, has_flag, if_due, due_rebuild, due_recalculation, due_revalidation, is_due, is_refresh_due, round, rounds, update}
use Rattle.xf_def_machine.specs.Events.{Fired, Tell, told_by}
use Rattle.xf_def_machine.specs.Same.{renumbered_model, renumbered_copy}
use Rattle.xf_def_xpath.specs.Same.{renumbered_property}
use Rattle.xf_law_sessions.specs.Same.Controls.{HasForm, renumbered_notification, renumbered_list}
use Rattle.xf_law_sessions.proofs.SameLemmas.ForestGoes.{map-length}
use Rattle.xf_law_sessions.proofs.SameLemmas.ScopeGoes.{model-at}
use Rattle.xf_law_sessions.proofs.SameLemmas.StateGoes.{tables-of}
use Rattle.xf_law_sessions.proofs.SameLemmas.GoingLaws.{going_laws, in-model-goes}
use Rattle.xf_law_sessions.proofs.SameLemmas.BehavesGo.{behaviours_go}
use Rattle.xf_law_sessions.proofs.SameLemmas.ControlsGo.{control_laws}
use Rattle.xf_law_machine.proofs.RestLemmas.Holds.{Held}
use Rattle.xf_law_machine.proofs.RestLemmas.FlagLaws.{rebuild-held, recalculate-held}
use Rattle.xf_law_machine.proofs.RestLemmas.WithinLaws.{grown-held}
use Rattle.xf_law_sessions.specs.Step.Steps.{IsOfForm}
use Rattle.xf_law_sessions.proofs.StepLemmas.Alike.{Two, other, Fits, Goes, mapped, same-alike, then-alike, eval-alike, when-alike, turn-alike, kept-turn, law-alike}

-- ---- the form stays

abbrev Formed : State → Type 0
Formed s = IsOfForm s.form

pub has-form : (s : State) → IsOfForm s.form → HasForm s.form
has-form s h = record {
  form = h.form;
  rules = ap (λ (x : Program). x.rules) h.is;
  interface = ap (λ (x : Program). x.interface) h.is;
}

some-formed : (change : Model → Model) (o : Option ℕ) (s : State) → Formed s → Formed (in_some_model change o s)
some-formed change None s h = h
some-formed change (Some k) s h = h

list-formed : (o : Option ℕ) (s : State) → Formed s → Formed (list_changed o s)
list-formed None s h = h
list-formed (Some parent) s h = some-formed (λ m. all_due (with_list_mark parent m)) (model_holding s parent) s h

text-formed : (p : Profile) (n : ℕ) (text : List ℕ) (s : State) → Formed s → Held Formed (set_text p n text s)
text-formed p n text s h =
    let after = with_text n text s.forest in
    let b = is_other_text s n text in
    let change : Model → Model = λ m. texts_due (if_other b (with_text_mark n) m) in
    grown-held Formed p (length (new_texts n text s.forest)) (unless (passed_by_text p.bounds.limits (length text) after.nodes) after) (in_some_model change (model_holding s n) s)
    (λ forest q. some-formed change (model_holding s n) s h)

attach-formed : (p : Profile) (n parent place : ℕ) (s : State) → Formed s → Held Formed (attach p n parent place s)
attach-formed p n parent place s h =
    grown-held Formed p 0 (attached p.bounds.limits n parent place s.forest) (list_changed (Some parent) s) (λ forest q. list-formed (Some parent) s h)

spent-formed : (left : ℕ) (s : State) → Formed s → Held Formed (spent_from left s)
spent-formed zero s h = tt
spent-formed (suc left) s h = h

passed-formed : (words : List LimitWord) (s t : State) → Formed t → Held Formed (unless_passed s words t)
passed-formed [] s t h = h
passed-formed (word ∷ words) s t h = tt

brought-formed : (s : State) (x : Result (List Index) Stop) → Formed s → Held Formed (with_brought s x)
brought-formed s (Ok indexes) h = h
brought-formed s (Err stop) h = tt

-- ---- events with other numbers

abbrev pub renumbered_fired : (ℕ → ℕ) → Fired → Fired
renumbered_fired f x = record { event = x.event; rows = map f x.rows; told = map (renumbered_property f) x.told }

module _ (e : Two) where
  abbrev pub Tells : Tell → Type 0
  Tells tell = (x : Fired) → Goes e (tell x) (tell (renumbered_fired e.f x))

  pub spend-alike : Goes e spend spend
  spend-alike s h = law-alike e spend spend s ((going_laws e.p e.f e.first e.second e.runs).spend s h.counts) (spent-formed s.turns s h.form)

  pub note-alike : (note : Note) → Goes e (add_note e.p note) (add_note e.p note)
  note-alike note s h =
      law-alike e (add_note e.p note) (add_note e.p note) s ((going_laws e.p e.f e.first e.second e.runs).add_note note s h.counts) (let notes = s.notes ++ note ∷ [] in passed-formed (if_over (nat_lt e.p.notes (notes_size notes)) Notes) s (record s { notes = notes }) h.form)

  pub text-alike : (n : ℕ) (text : List ℕ) → Goes e (set_text e.p n text) (set_text e.p (e.f n) text)
  text-alike n text s h =
      law-alike e (set_text e.p n text) (set_text e.p (e.f n) text) s ((going_laws e.p e.f e.first e.second e.runs).set_text n text s h.counts) (text-formed e.p n text s h.form)

  pub attach-alike : (n parent place : ℕ) → Goes e (attach e.p n parent place) (attach e.p (e.f n) (e.f parent) place)
  attach-alike n parent place s h =
      law-alike e (attach e.p n parent place) (attach e.p (e.f n) (e.f parent) place) s ((going_laws e.p e.f e.first e.second e.runs).attach n parent place s h.counts)
      (attach-formed e.p n parent place s h.form)

  pub some-ok : {s t : State} → ◌≡◌ {A = Result State Refused} (Ok s) (Ok t) → s ≡ t
  some-ok q = cc

  pub detach-is : (n : ℕ) (s : State) → Fits e s → detach (e.f n) (other e s) ≡ other e (detach n s)
  detach-is n s h = some-ok ((going_laws e.p e.f e.first e.second e.runs).detach n s h.counts).is

  pub detach-fits : (n : ℕ) (s : State) → Fits e s → Fits e (detach n s)
  detach-fits n s h = record { counts = ((going_laws e.p e.f e.first e.second e.runs).detach n s h.counts).counts; form = list-formed (parent_of n (all_in s)) s h.form }

  -- ---- behaviours

  pub rebuild-alike : (model : ℕ) → Goes e (rebuild e.p model) (rebuild e.p model)
  rebuild-alike model s h =
      law-alike e (rebuild e.p model) (rebuild e.p model) s ((behaviours_go e.p e.f e.first e.second e.runs).rebuild model s (tables-of s (has-form s h.form)) h.counts)
      (rebuild-held Formed e.p model s (λ entries asked q. h.form))

  pub recalculate-alike : (model : ℕ) → Goes e (recalculate e.p model) (recalculate e.p model)
  recalculate-alike model s h =
      law-alike e (recalculate e.p model) (recalculate e.p model) s ((behaviours_go e.p e.f e.first e.second e.runs).recalculate model s (tables-of s (has-form s h.form)) h.counts)
      (recalculate-held Formed e.p model s (λ made count. h.form))

  pub revalidate-alike : (model : ℕ) → Goes e (λ s. Ok (revalidate e.p model s)) (λ s. Ok (revalidate e.p model s))
  revalidate-alike model s h =
      law-alike e (λ t. Ok (revalidate e.p model t)) (λ t. Ok (revalidate e.p model t)) s
      ((behaviours_go e.p e.f e.first e.second e.runs).revalidate model s (tables-of s (has-form s h.form)) h.counts) h.form

  due-alike : (flag : Flags → Bool) (model : ℕ) (run : Run) → Goes e run run → Goes e (if_due flag model run) (if_due flag model run)
  due-alike flag model run k s h =
      when-alike e (flag (model_at s model).flags) (flag (model_at (other e s) model).flags) run run s (ap (λ (m : Model). flag m.flags) (model-at e.f model s.models)) h (k s h)

  pub due-rebuild-alike : (model : ℕ) → Goes e (due_rebuild e.p model) (due_rebuild e.p model)
  due-rebuild-alike model s h = due-alike (λ x. x.rebuild) model (rebuild e.p model) (rebuild-alike model) s h

  pub due-recalculation-alike : (model : ℕ) → Goes e (due_recalculation e.p model) (due_recalculation e.p model)
  due-recalculation-alike model s h =
      then-alike e (due_rebuild e.p model s) (due_rebuild e.p model (other e s)) (if_due (λ x. x.recalculate) model (recalculate e.p model)) (if_due (λ x. x.recalculate) model (recalculate e.p model))
      (due-rebuild-alike model s h) (due-alike (λ x. x.recalculate) model (recalculate e.p model) (recalculate-alike model))

  pub due-revalidation-alike : (model : ℕ) → Goes e (due_revalidation e.p model) (due_revalidation e.p model)
  due-revalidation-alike model s h =
      let last : Run = if_due (λ x. x.revalidate) model (λ t. Ok (revalidate e.p model t)) in
      then-alike e (due_recalculation e.p model s) (due_recalculation e.p model (other e s)) last last
      (due-recalculation-alike model s h) (due-alike (λ x. x.revalidate) model (λ t. Ok (revalidate e.p model t)) (revalidate-alike model))

  -- ---- indexes and refreshes

  pub reindex-alike : (added : List ℕ) → Goes e (reindex e.p added) (reindex e.p (map e.f added))
  reindex-alike added s h =
      law-alike e (reindex e.p added) (reindex e.p (map e.f added)) s ((control_laws e.p e.f e.first e.second e.runs).reindex added s (has-form s h.form) h.counts)
      (brought-formed s (brought_up e.p.passes (interface s) (quiet e.p s) added s.indexes) h.form)

  list-mapped : (x : Result (List Copy) Refused) → renumbered_list e.f x ≡ mapped e (map (renumbered_copy e.f)) x
  list-mapped (Ok list) = refl
  list-mapped (Err refusal) = refl

  pub record Clears (cleared : State → State) : Type 0 where
    pub is : (s : State) → cleared (other e s) ≡ other e (cleared s)
    pub fits : (s : State) → Fits e s → Fits e (cleared s)

  pub one-clears : (model : ℕ) → Clears (refresh_cleared model)
  one-clears model = record {
    is = λ s. in-model-goes e.p e.f e.first e.second e.runs no_refresh no_refresh model (λ m. refl) s;
    fits = λ s h. record { counts = record { next = h.counts.next; within = h.counts.within }; form = h.form };
  }

  pub refresh-alike : (cleared : State → State) → Clears cleared → (tell : Tell) → Tells tell → Goes e (refresh e.p cleared tell) (refresh e.p cleared tell)
  refresh-alike cleared c tell t s h =
      let told : State → List Copy → Result State Refused = λ u list. in_turn (λ n. tell (told_by n)) (notifications u.controls list) (cleared (record u { controls = list })) in
      then-alike e (reindex e.p [] s) (reindex e.p [] (other e s)) (λ u. shown e.p u >>= told u) (λ u. shown e.p u >>= told u) (reindex-alike [] s h)
      (λ u k. eval-alike e (map (renumbered_copy e.f)) (shown e.p u) (shown e.p (other e u)) (told u) (told (other e u))
      ((control_laws e.p e.f e.first e.second e.runs).shown u (has-form u k.form) ∙ list-mapped (shown e.p u))
      (λ list. let v : State = record u { controls = list } in
      let fits : Fits e v = record { counts = record { next = k.counts.next; within = k.counts.within }; form = k.form } in
      same-alike e (told u list)
      (in_turn (λ n. tell (told_by n)) (map (renumbered_notification e.f) (notifications u.controls list)) (other e (cleared v))) (told (other e u) (map (renumbered_copy e.f) list))
      (ap (λ ns. in_turn (λ n. tell (told_by n)) ns (cleared (other e v))) ((control_laws e.p e.f e.first e.second e.runs).told u.controls list)
      ∙ ap (in_turn (λ n. tell (told_by n)) (map (renumbered_notification e.f) (notifications u.controls list))) (c.is v))
      (turn-alike e (renumbered_notification e.f) (λ n. tell (told_by n)) (λ n. tell (told_by n)) (notifications u.controls list) (λ n. t (told_by n)) (cleared v) (c.fits v fits))))

  -- ---- updates

  any-same : (test : Flags → Bool) (ms : List Model) → list_any (λ m. test m.flags) (map (renumbered_model e.f) ms) ≡ list_any (λ m. test m.flags) ms
  any-same test [] = refl
  any-same test (m ∷ ms) = ap (λ b. test m.flags || b) (any-same test ms)

  all-clears : Clears all_cleared
  all-clears = record {
    is = is-all;
    fits = λ s h. record { counts = record { next = h.counts.next; within = h.counts.within }; form = h.form };
  }
    where
      cleared-map : (ms : List Model) → map no_refresh (map (renumbered_model e.f) ms) ≡ map (renumbered_model e.f) (map no_refresh ms)
      cleared-map [] = refl
      cleared-map (m ∷ ms) = ap (λ l. no_refresh (renumbered_model e.f m) ∷ l) (cleared-map ms)

      is-all : (s : State) → all_cleared (other e s) ≡ other e (all_cleared s)
      is-all s = ap {A = List Model} {B = State} (λ ms. record (other e s) { models = ms }) (cleared-map s.models)

  round-alike : (tell : Tell) → Tells tell → Goes e (round e.p tell) (round e.p tell)
  round-alike tell t s h =
      let rest : Run = λ u. when (is_refresh_due u) (refresh e.p all_cleared tell) u in
      let turns : ℕ → Run = λ k. in_turn (due_revalidation e.p) (counted_from 0 k) in
      then-alike e (turns (length s.models) s) (turns (length (map (renumbered_model e.f) s.models)) (other e s)) rest rest
      (same-alike e (turns (length s.models) s) (turns (length s.models) (other e s)) (turns (length (map (renumbered_model e.f) s.models)) (other e s))
      (ap (λ k. turns k (other e s)) (map-length (renumbered_model e.f) s.models))
      (kept-turn e (due_revalidation e.p) (due_revalidation e.p) (counted_from 0 (length s.models)) due-revalidation-alike s h))
      (λ u k. when-alike e (is_refresh_due u) (is_refresh_due (other e u)) (refresh e.p all_cleared tell) (refresh e.p all_cleared tell) u (any-same (λ x. x.refresh) u.models) k
      (refresh-alike all_cleared all-clears tell t u k))

  rounds-alike : (left : ℕ) (once : Run) → Goes e once once → Goes e (rounds left once) (rounds left once)
  rounds-alike zero once k s h = record { is = refl; fits = tt }
  rounds-alike (suc left) once k s h =
      let more : Run = λ t. spend t >>= once >>= rounds left once in
      when-alike e (is_due s) (is_due (other e s)) more more s (any-same has_flag s.models) h
      (then-alike e (spend s >>= once) (spend (other e s) >>= once) (rounds left once) (rounds left once)
      (then-alike e (spend s) (spend (other e s)) once once (spend-alike s h) k) (rounds-alike left once k))

  pub update-alike : (tell : Tell) → Tells tell → Goes e (update e.p tell) (update e.p tell)
  update-alike tell t s h = rounds-alike (suc s.turns) (round e.p tell) (round-alike tell t) s h
