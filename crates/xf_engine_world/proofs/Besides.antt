-- What a call on what an engine works on does in the machine, it does with the notes of the event and the calls of the store beside it.
use Rattle.std.proofs.Common.{◌≡◌, ℕ, zero, suc, List, [], ◌∷◌, map, Option, Some, None, Result, Ok, Err, inl, inr, refl, ap, sym, ◌∙◌, subst, arith}
use Rattle.std.specs.Prelude.{Contains}
use Rattle.xf_controls.specs.declared.refresh.Notification.{Notification}
use Rattle.xf_controls.specs.Seen.{seen_notification}
use Rattle.xf_def_ui.specs.Copies.{Copy}
use Rattle.xf_def_ui.specs.Notifications.{notifications}
use Rattle.xf_def_machine.specs.declared.limit.LimitWord.{LimitWord}
use Rattle.xf_def_machine.specs.declared.refusal.Refusal.{Refusal}
use Rattle.xf_def_machine.specs.declared.refusal.Refusal.TheVariants.{NoSuchTarget, Disabled, ReadOnly, NotAnItem, BadIndex, PropertyTwice, CalculateOnParent, Binding, Circular, Limit, Budget, Depth, Sends}
use Rattle.xf_def_machine.specs.Events as events
use Rattle.xf_def_machine.specs.Flow.{Run, ◌>>=◌}
use Rattle.xf_def_machine.specs.Refusal as machine
use Rattle.xf_def_machine.specs.Refusal.{Refused}
use Rattle.xf_def_machine.specs.State.{State}
use Rattle.xf_def_machine.specs.Told.{told, Tells}
use Rattle.xf_def_machine.specs.Update as update
use Rattle.xf_law_machine.specs.Beside.Beside.{Beside, beside, besides, made_beside, GoesBeside, MakesBeside, TurnsBeside}
use Rattle.xf_law_machine.proofs.BesideLemmas.ChangesGo.{changes_go_beside}
use Rattle.xf_actions.specs.Performs.{Among, IsTold, RefusedAs, Refuses, Runs, Makes, Reads}
use Rattle.xf_actions.specs.Told.{cleared_by, refreshed}
use Rattle.xf_def_form.specs.Formed.{profile}
use Rattle.xf_engine_state.specs.declared.fault.WorkFault.{WorkFault}
use Rattle.xf_engine_state.specs.declared.fault.WorkFault.TheVariants as fault
use Rattle.xf_engine_state.specs.Calls.{AreRefreshed, Refreshes}
use Rattle.xf_engine_state.specs.Does as work
use Rattle.xf_engine_state.specs.Does.{Does, IsRefused}
use Rattle.xf_engine_state.specs.Standing.{Standing, state_of}
use Rattle.xf_actions.specs.declared.fault.EventFault.{EventFault}
use Rattle.xf_engine_world.specs.declared.form_world.FormWorld.{FormWorld}
use Rattle.xf_actions.specs.Fault.{means}
use Rattle.xf_engine_world.specs.Fault.{event_of, fault_of_work}

-- ---- refusals

among : (words : List LimitWord) (word : LimitWord) → Contains words word → Among word words
among [] word (at, within, there) = absurd (omega (arith, within))
among (w ∷ words) word (zero, within, there) = inl (sym there)
among (w ∷ words) word (suc at, within, there) = inr (among words word (at, omega (arith, within), there))

tells-told : (refusal : Refusal) (why : machine.Refusal) → Tells refusal why → IsTold (told refusal) why
tells-told NoSuchTarget why e = subst (IsTold machine.no_target) (sym e) refl
tells-told Disabled why e = subst (IsTold machine.disabled) (sym e) refl
tells-told ReadOnly why e = subst (IsTold machine.readonly) (sym e) refl
tells-told NotAnItem why e = subst (IsTold machine.not_an_item) (sym e) refl
tells-told BadIndex why e = subst (IsTold machine.bad_index) (sym e) refl
tells-told (PropertyTwice path) why e = subst (IsTold (machine.twice path)) (sym e) refl
tells-told (CalculateOnParent path) why e = subst (IsTold (machine.on_parent path)) (sym e) refl
tells-told (Binding path) why e = subst (IsTold (machine.binding path)) (sym e) refl
tells-told (Circular paths) why e = subst (IsTold (machine.circular paths)) (sym e) refl
tells-told (Limit word) why (words, e, c) = subst (IsTold (machine.limit (word ∷ []))) (sym e) (word, among words word c, refl)
tells-told Budget why e = subst (IsTold machine.budget) (sym e) refl
tells-told Depth why e = subst (IsTold machine.depth) (sym e) refl
tells-told Sends why e = subst (IsTold machine.sends) (sym e) refl

-- the notes of an event, and the calls of the store in it
abbrev pub beside_in : FormWorld → Beside
beside_in w = record { notes = w.notes; calls = w.calls }

refused-beside : (b : Beside) (refusal : Refusal) (given : Result State Refused) → IsRefused refusal given → RefusedAs (told refusal) b.calls (besides b given)
refused-beside b refusal (Ok t) h = h
refused-beside b refusal (Err r) h = (tells-told refusal r.why h.0, refl)

-- ---- changes

pub runs-beside : {X : Type 0} (b : Beside) (run : Run) → GoesBeside run → (before after : Standing) (done : Result X WorkFault) → Does done after (run (state_of before))
    → Runs means (beside b (state_of after)) (event_of done) (run (beside b (state_of before)))
unfolding Refuses
runs-beside b run g before after (Ok x) d = g b (state_of before) ∙ ap (besides b) d
runs-beside b run g before after (Err (fault.Refused refusal)) d =
    subst (RefusedAs (told refusal) b.calls) (sym (g b (state_of before))) (refused-beside b refusal (run (state_of before)) d)
runs-beside b run g before after (Err fault.Memory) d = d

-- told as an answer of an event
pub runs-told : {X : Type 0} (b : Beside) (run : Run) → GoesBeside run → (before after : Standing) (done : Result X WorkFault) (answer : Result X EventFault)
    → Does done after (run (state_of before)) → answer ≡ event_of done
    → Runs means (beside b (state_of after)) answer (run (beside b (state_of before)))
runs-told b run g before after done answer d e =
    subst (λ r. Runs means (beside b (state_of after)) r (run (beside b (state_of before)))) (sym e) (runs-beside b run g before after done d)

runs-read : {X : Type 0} (s : State) (answer : Result X EventFault) (given : Result State Refused) → Runs means s answer given → Reads means (λ (x : X). s) s answer given
runs-read s (Ok x) given h = h
runs-read s (Err fault) given h = h

-- of a change that asks alone
pub reads-told : {X : Type 0} (b : Beside) (run : Run) → GoesBeside run → (now : Standing) (done : Result X WorkFault) (answer : Result X EventFault)
    → Does done now (run (state_of now)) → answer ≡ event_of done
    → Reads means (λ (x : X). beside b (state_of now)) (beside b (state_of now)) answer (run (beside b (state_of now)))
reads-told b run g now done answer d e = runs-read (beside b (state_of now)) answer _ (runs-told b run g now now done answer d e)

-- ---- changes that give a value

refused-made : {X : Type 0} (b : Beside) (refusal : Refusal) (given : Result (X × State) Refused) → IsRefused refusal given → RefusedAs (told refusal) b.calls (made_beside b given)
refused-made b refusal (Ok (x, t)) h = h
refused-made b refusal (Err r) h = (tells-told refusal r.why h.0, refl)

module _ {X Y : Type 0} (b : Beside) (view : X → Y) (change : State → Result (Y × State) Refused) (g : MakesBeside change) (before after : Standing) where
  makes-beside : (done : Result X WorkFault) → work.Makes view done after (change (state_of before))
      → Makes means view (beside b (state_of after)) (event_of done) (change (beside b (state_of before)))
  unfolding Refuses
  makes-beside (Ok x) d = g b (state_of before) ∙ ap (made_beside b) d
  makes-beside (Err (fault.Refused refusal)) d =
      subst (RefusedAs (told refusal) b.calls) (sym (g b (state_of before))) (refused-made b refusal (change (state_of before)) d)
  makes-beside (Err fault.Memory) d = d

  -- told as an answer of an event
  pub makes-told : (done : Result X WorkFault) (answer : Result X EventFault) → work.Makes view done after (change (state_of before)) → answer ≡ event_of done
      → Makes means view (beside b (state_of after)) answer (change (beside b (state_of before)))
  makes-told done answer d e =
      subst (λ r. Makes means view (beside b (state_of after)) r (change (beside b (state_of before)))) (sym e) (makes-beside done d)

-- ---- a refresh

cleared-turns : (model : Option ℕ) → TurnsBeside (cleared_by model)
cleared-turns None b s = refl
cleared-turns (Some model) b s = refl

refreshed-is : (b : Beside) (model : Option ℕ) (s : Standing)
    → refreshed profile (cleared_by model) (beside b (state_of s)) ≡ made_beside b (refreshed profile (cleared_by model) (state_of s))
refreshed-is b model s = (changes_go_beside profile).refreshed (cleared_by model) (cleared-turns model) b (state_of s)

-- what follows the list
abbrev after_list : (State → State) → State → List Copy → Result (List events.Fired × State) Refused
after_list cleared t list = Ok (map events.told_by (notifications t.controls list), cleared (record t { controls = list }))

-- what follows the indexes
abbrev after_indexes : (State → State) → State → Result (List events.Fired × State) Refused
after_indexes cleared t = update.shown profile t >>= after_list cleared t

refused-shown : (b : Beside) (refusal : Refusal) (cleared : State → State) (t : State) (r : Result (List Copy) Refused) → IsRefused refusal r
    → RefusedAs (told refusal) b.calls (made_beside b (r >>= after_list cleared t))
refused-shown b refusal cleared t (Ok list) h = h
refused-shown b refusal cleared t (Err r) h = (tells-told refusal r.why h.0, refl)

refused-brought : (b : Beside) (refusal : Refusal) (cleared : State → State) (r : Result State Refused) → IsRefused refusal (r >>= update.shown profile)
    → RefusedAs (told refusal) b.calls (made_beside b (r >>= after_indexes cleared))
refused-brought b refusal cleared (Ok t) h = refused-shown b refusal cleared t (update.shown profile t) h
refused-brought b refusal cleared (Err r) h = (tells-told refusal r.why h.0, refl)

pub refresh-refused : (b : Beside) (model : Option ℕ) (before : Standing) (refusal : Refusal)
    → IsRefused refusal (update.reindex profile [] (state_of before) >>= update.shown profile)
    → RefusedAs (told refusal) b.calls (refreshed profile (cleared_by model) (beside b (state_of before)))
refresh-refused b model before refusal r =
    subst (RefusedAs (told refusal) b.calls) (sym (refreshed-is b model before))
    (refused-brought b refusal (cleared_by model) (update.reindex profile [] (state_of before)) r)

pub refresh-made : (b : Beside) (model : Option ℕ) (before after : Standing) (answer : List Notification) (told : List events.Fired)
    → AreRefreshed (cleared_by model) answer before after → told ≡ map events.told_by (map seen_notification answer)
    → refreshed profile (cleared_by model) (beside b (state_of before)) ≡ Ok (told, beside b (state_of after))
refresh-made b model before after answer told a e =
    let cleared = cleared_by model in
    refreshed-is b model before
    ∙ ap (λ r. made_beside b (r >>= after_indexes cleared)) a.brought
    ∙ ap (λ r. made_beside b (r >>= after_list cleared a.t)) a.shown
    ∙ ap (λ ns. Ok (map events.told_by ns, beside b (cleared (record a.t { controls = a.list })))) (sym a.told)
    ∙ ap (λ u. Ok (map events.told_by (map seen_notification answer), beside b u)) (sym a.now)
    ∙ ap (λ es. Ok (es, beside b (state_of after))) (sym e)

pub refresh-stopped : (b : Beside) (model : Option ℕ) (before after : Standing) (fault : WorkFault) (e : EventFault) → Refreshes (cleared_by model) (Err fault) before after
    → e ≡ fault_of_work fault → Refuses (means e) b.calls (refreshed profile (cleared_by model) (beside b (state_of before)))
unfolding Refuses
refresh-stopped b model before after (fault.Refused refusal) e h i =
    subst (λ x. Refuses (means x) b.calls (refreshed profile (cleared_by model) (beside b (state_of before)))) (sym i) (refresh-refused b model before refusal h)
refresh-stopped b model before after fault.Memory e h i =
    subst (λ x. Refuses (means x) b.calls (refreshed profile (cleared_by model) (beside b (state_of before)))) (sym i) tt
