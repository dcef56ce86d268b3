-- Deletes, rows, cases, events, notes and resets over a state and the same one with other numbers.
use Rattle.std.proofs.Common.{◌≡◌, ℕ, ◌==◌, Bool, true, false, List, [], ◌∷◌, map, codes, get_or, Option, Some, None, option_map, Result, Ok, refl, ap, ◌∙◌, ℤ}
use Rattle.xf_def_syntax.specs.declared.action.DispatchWork.{DispatchWork}
use Rattle.xf_def_forest.specs.declared.content.Content.{Content}
use Rattle.xf_def_forest.specs.Changes.{standing}
use Rattle.xf_def_forest.specs.Same.{renumbered}
use Rattle.xf_def_forest.proofs.RenumberChanges.{standing-renumbered}
use Rattle.xf_def_values.specs.Conversions.{Decimal}
use Rattle.xf_def_xpath.specs.Setting.{Focus, Meaning}
use Rattle.xf_def_xpath.specs.Same.{renumbered_focus}
use Rattle.xf_def_xpath.proofs.RenumberValues.{Renumbers}
use Rattle.xf_def_model.specs.Taken.{planned_delete}
use Rattle.xf_def_model.specs.Same.{renumbered_delete}
use Rattle.xf_def_model.proofs.RenumberPlaces.{planned_delete-renumbered}
use Rattle.xf_def_ui.specs.Cases.{cases_of, place_of_case}
use Rattle.xf_def_ui.specs.Context.{Context, inside}
use Rattle.xf_def_ui.specs.Elements.{element_at}
use Rattle.xf_def_ui.specs.Index.{Index}
use Rattle.xf_def_ui.specs.Interface.{Bound, unbound, nodes, by_bind}
use Rattle.xf_def_ui.specs.Labels.{text_in, bound_text}
use Rattle.xf_def_ui.specs.Started.{index_set}
use Rattle.xf_def_machine.specs.declared.note.Note.TheVariants as note
use Rattle.xf_def_machine.specs.Program.{DeleteBy}
use Rattle.xf_def_machine.specs.State.{State}
use Rattle.xf_def_machine.specs.Refusal.{Refused, or_long}
use Rattle.xf_def_machine.specs.Flow.{Run, ◌>>=◌, where_some, in_turn}
use Rattle.xf_def_machine.specs.Surround.{interface, document_at, instance_holding, quiet}
use Rattle.xf_def_machine.specs.Primitives.{plant, attach, detach, in_model, refresh_due, set_case, add_note, with_indexes}
use Rattle.xf_def_machine.specs.Update.{reindex}
use Rattle.xf_def_machine.specs.Events.{Tell, fired, fired_at, plainly, model_element, submission_element}
use Rattle.xf_def_machine.specs.Acting.{Acting, whole_for, surroundings, binding_of}
use Rattle.xf_def_machine.specs.Insert.{moved_focus, set_asked, tell_instance}
use Rattle.xf_def_machine.specs.Delete as delete
use Rattle.xf_def_machine.specs.Choose.{named_copy, not_below_zero, set_index, act_index, switch_number, toggled, unless_same, toggle_in, toggle, act_dispatch, act_send, act_on_model}
use Rattle.xf_def_machine.specs.Telling.{message, loaded_text, load, focus}
use Rattle.xf_def_machine.specs.Construct.{replace_at, replace, construct, first_contents, put_back, instances_of, reset}
use Rattle.xf_law_sessions.proofs.SameLemmas.ForestGoes.{map-length, holding-goes}
use Rattle.xf_law_sessions.proofs.SameLemmas.ScopeGoes.{document-goes}
use Rattle.xf_law_sessions.proofs.SameLemmas.AroundGoes.{inside-goes, renumbered_inside, BoundGoes}
use Rattle.xf_law_sessions.proofs.SameLemmas.IndexGoes.{indexed-goes}
use Rattle.xf_law_sessions.proofs.SameLemmas.LabelsGo.{bound-text, text-goes}
use Rattle.xf_law_sessions.proofs.SameLemmas.StateGoes.{elements-go, around-goes}
use Rattle.xf_law_sessions.proofs.SameLemmas.GoingLaws.{in-model-goes}
use Rattle.xf_law_sessions.proofs.SameLemmas.ControlsGo.{control_laws}
use Rattle.xf_law_machine.proofs.RestLemmas.Holds.{Held}
use Rattle.xf_law_sessions.specs.Step.Steps.{IsOfForm}
use Rattle.xf_law_sessions.proofs.StepLemmas.Alike.{Two, other, Fits, Alike, Goes, long-same, long-mapped, same-alike, then-alike, eval-alike, kept-alike, some-alike, kept-some, turn-alike, kept-turn, law-alike}
use Rattle.xf_law_sessions.proofs.StepLemmas.ChangesAlike.{has-form, renumbered_fired, Tells, note-alike, attach-alike, detach-is, detach-fits, reindex-alike}
use Rattle.xf_law_sessions.proofs.StepLemmas.EvalAlike.{DeleteGoes, renumbered_acting, fired-is, seen-goes, own-goes, whole-goes}
use Rattle.xf_law_sessions.proofs.StepLemmas.ActionsAlike.{focus-goes, set-goes, delete-at-goes, closed-goes, order-goes, tell-alike}
use Rattle.xf_law_sessions.proofs.StepLemmas.MovesAlike.{Any, made-then, plant-made}

set-formed : (model : ℕ) (s : State) (o : Option (List Index)) → IsOfForm s.form → Held (λ t. IsOfForm t.form) (or_long s o >>= λ indexes. Ok (in_model refresh_due model (with_indexes indexes s)))
set-formed model s None h = tt
set-formed model s (Some indexes) h = h

module _ (e : Two) where
  -- ---- deletes

  deleted-alike : (tell : Tell) → Tells e tell → (location : Decimal) (ns : List ℕ) → Goes e (delete.deleted e.p tell location ns) (delete.deleted e.p tell location (map e.f ns))
  deleted-alike tell t location [] s h = record { is = refl; fits = h }
  deleted-alike tell t location (n ∷ ns) s h =
      let cut : List ℕ → Run = in_turn (λ m u. Ok (detach m u)) in
      let instance = instance_holding s n in
      let instance_too = instance_holding (other e s) (e.f n) in
      then-alike e (cut (n ∷ ns) s >>= reindex e.p []) (cut (map e.f (n ∷ ns)) (other e s) >>= reindex e.p [])
      (tell_instance tell (codes "xforms-delete") (λ u. delete.delete_told u (n ∷ ns) location) instance)
      (tell_instance tell (codes "xforms-delete") (λ u. delete.delete_told u (map e.f (n ∷ ns)) location) instance_too)
      (then-alike e (cut (n ∷ ns) s) (cut (map e.f (n ∷ ns)) (other e s)) (reindex e.p []) (reindex e.p [])
      (turn-alike e e.f (λ m u. Ok (detach m u)) (λ m u. Ok (detach m u)) (n ∷ ns) (λ m u k. record { is = ap Ok (detach-is e m u k); fits = detach-fits e m u k }) s h) (reindex-alike e []))
      (tell-alike e tell t (codes "xforms-delete") (λ u. delete.delete_told u (n ∷ ns) location) (λ u. delete.delete_told u (map e.f (n ∷ ns)) location)
      (λ u. rw (order-goes e u (n ∷ ns)) refl) instance instance_too (holding-goes e.f e.runs.renumbers e.second s n))

  delete-at-alike : (tell : Tell) → Tells e tell → (x : Acting) (w : DeleteBy) → DeleteGoes e.f w → (c : Focus)
      → Goes e (delete.delete_at e.p tell x w c) (delete.delete_at e.p tell (renumbered_acting e x) w (renumbered_focus e.f c))
  delete-at-alike tell t x w r c s h =
      let y = renumbered_acting e x in
      let u = other e s in
      let last : State → List ℕ → Option ℤ → Result State Refused = λ v set at.
      delete.deleted e.p tell (delete.location_of v.form.decimals set at) (planned_delete v.forest.nodes (delete.asked_with v set at)) v in
      eval-alike e (map e.f) (set_asked e.p x c s) (set_asked e.p y (renumbered_focus e.f c) u) (λ set. delete.at_asked e.p x w.at set s >>= last s set) (λ set. delete.at_asked e.p y w.at set u >>= last u set)
      (set-goes e x c s h)
      (λ set. kept-alike e (delete.at_asked e.p x w.at set s) (delete.at_asked e.p y w.at (map e.f set) u) (last s set) (last u (map e.f set)) (delete-at-goes e x w.at r.at set s h)
      (λ at. let asked = delete.asked_with s set at in
      let ns = planned_delete s.forest.nodes asked in
      same-alike e (last s set at) (delete.deleted e.p tell (delete.location_of s.form.decimals set at) (map e.f ns) u) (last u (map e.f set) at)
      (ap (λ l. delete.deleted e.p tell l (planned_delete (map (renumbered e.f) s.forest.nodes) (delete.asked_with u (map e.f set) at)) u) (place at set)
      ∙ ap (λ closed. delete.deleted e.p tell (delete.location_of s.form.decimals set at) (planned_delete (map (renumbered e.f) s.forest.nodes) (record (renumbered_delete e.f asked) { closed = closed })) u) (closed-goes e s)
      ∙ ap (λ ms. delete.deleted e.p tell (delete.location_of s.form.decimals set at) ms u) (planned_delete-renumbered e.f e.runs.renumbers s.forest.nodes asked))
      (deleted-alike tell t (delete.location_of s.form.decimals set at) ns s h)))
    where
      place : (at : Option ℤ) (set : List ℕ) → delete.location_of s.form.decimals (map e.f set) at ≡ delete.location_of s.form.decimals set at
      place None set = refl
      place (Some k) set = rw (map-length e.f set) refl

  pub delete-alike : (tell : Tell) → Tells e tell → (x : Acting) (w : DeleteBy) → DeleteGoes e.f w → Goes e (delete.delete e.p tell x w) (delete.delete e.p tell (renumbered_acting e x) w)
  delete-alike tell t x w r s h =
      let y = renumbered_acting e x in
      eval-alike e (option_map (renumbered_focus e.f)) (moved_focus e.p x w.context s) (moved_focus e.p y w.context (other e s)) (λ c. where_some c (delete.delete_at e.p tell x w) s)
      (λ c. where_some c (delete.delete_at e.p tell y w) (other e s)) (focus-goes e x w.context r.context s h)
      (λ c. some-alike e (renumbered_focus e.f) c (option_map (renumbered_focus e.f) c) (delete.delete_at e.p tell x w) (delete.delete_at e.p tell y w) s refl h (λ k. delete-at-alike tell t x w r k s h))

  -- ---- rows and cases

  pub named-goes : (s : State) (n : ℕ) → named_copy (other e s) n ≡ option_map (map e.f) (named_copy s n)
  named-goes s n = indexed-goes e.f e.runs.renumbers (interface s) s.indexes n

  pub set-index-alike : (model r k : ℕ) → Goes e (set_index e.p model r k) (set_index e.p model r k)
  set-index-alike model r k s h =
      law-alike e (set_index e.p model r k) (set_index e.p model r k) s ((control_laws e.p e.f e.first e.second e.runs).set_index model r k s (has-form s h.form) h.counts)
      (set-formed model s (index_set (interface s) (quiet e.p s) r k s.indexes) h.form)

  pub act-index-alike : (x : Acting) (place : ℕ) (m : Meaning) → Renumbers e.f m → Goes e (act_index e.p x place m) (act_index e.p (renumbered_acting e x) place m)
  act-index-alike x place m q s h =
      let y = renumbered_acting e x in
      let r = get_or (interface s).repeats place 0 in
      let number : Acting → State → Result State Refused = λ z t. whole_for e.p z t z.focus m >>= λ k. where_some (option_map not_below_zero k) (set_index e.p z.model r) t in
      some-alike e (map e.f) (named_copy s r) (named_copy (other e s) r) (λ rows. number x) (λ rows. number y) s (named-goes s r) h
      (λ rows. kept-alike e (whole_for e.p x s x.focus m) (whole_for e.p y (other e s) y.focus m) (λ k. where_some (option_map not_below_zero k) (set_index e.p x.model r) s)
      (λ k. where_some (option_map not_below_zero k) (set_index e.p x.model r) (other e s)) (whole-goes e x s h x.focus m q)
      (λ k. kept-some e (option_map not_below_zero k) (set_index e.p x.model r) (set_index e.p x.model r) s h (λ n. set-index-alike x.model r n s h)))

  toggled-alike : (tell : Tell) → Tells e tell → (model k place one : ℕ) (rows : List ℕ) → Goes e (toggled tell model k place one rows) (toggled tell model k place one (map e.f rows))
  toggled-alike tell t model k place one rows s h =
      let old = get_or (cases_of (interface s) (get_or (interface s).switches k 0)) (get_or s.cases k 0) 0 in
      let after = in_model refresh_due model (set_case k place s) in
      let first = plainly (codes "xforms-deselect") old rows in
      let second = plainly (codes "xforms-select") one rows in
      let fits : Fits e after = record { counts = record { next = h.counts.next; within = h.counts.within }; form = h.form } in
      then-alike e (tell first after) (tell (renumbered_fired e.f first) (in_model refresh_due model (set_case k place (other e s)))) (tell second) (tell (renumbered_fired e.f second))
      (same-alike e (tell first after) (tell (renumbered_fired e.f first) (other e after)) (tell (renumbered_fired e.f first) (in_model refresh_due model (set_case k place (other e s))))
      (ap (tell (renumbered_fired e.f first)) (in-model-goes e.p e.f e.first e.second e.runs refresh_due refresh_due model (λ m. refl) (set_case k place s))) (t first after fits)) (t second)

  unless-alike : (b : Bool) (run run_too : Run) (s : State) → Fits e s → Alike e (run s) (run_too (other e s)) → Alike e (unless_same b run s) (unless_same b run_too (other e s))
  unless-alike true run run_too s h k = record { is = refl; fits = h }
  unless-alike false run run_too s h k = k

  toggle-in-alike : (tell : Tell) → Tells e tell → (model one parent : ℕ) → Goes e (toggle_in tell model one parent) (toggle_in tell model one parent)
  toggle-in-alike tell t model one parent s h =
      let k = switch_number (element_at (interface s) parent).sort in
      let place = place_of_case (interface s) parent one in
      let run : Run = λ u. where_some (named_copy u one) (toggled tell model k place one) u in
      unless-alike (place == get_or s.cases k 0) run run s h
      (some-alike e (map e.f) (named_copy s one) (named_copy (other e s) one) (toggled tell model k place one) (toggled tell model k place one) s (named-goes s one) h
      (λ rows. toggled-alike tell t model k place one rows s h))

  pub toggle-alike : (tell : Tell) → Tells e tell → (model one : ℕ) → Goes e (toggle tell model one) (toggle tell model one)
  toggle-alike tell t model one s h =
      kept-some e (element_at (interface s) one).parent (toggle_in tell model one) (toggle_in tell model one) s h (λ parent. toggle-in-alike tell t model one parent s h)

  -- ---- events

  pub act-dispatch-alike : (tell : Tell) → Tells e tell → (w : DispatchWork) → Goes e (act_dispatch tell w) (act_dispatch tell w)
  act-dispatch-alike tell t w s h =
      let run : List ℕ → Run = λ rows u. tell (fired w.name w.bubbles w.is_cancelable [] w.target rows) u in
      some-alike e (map e.f) (named_copy s w.target) (named_copy (other e s) w.target) run run s (named-goes s w.target) h
      (λ rows. t (fired w.name w.bubbles w.is_cancelable [] w.target rows) s h)

  -- one that is told without properties
  pub fire-alike : (tell : Tell) → Tells e tell → (name : List ℕ) (target : ℕ) (s : State) → Fits e s
      → Alike e (tell (fired_at s name [] target) s) (tell (fired_at (other e s) name [] target) (other e s))
  fire-alike tell t name target s h =
      let x = fired_at s name [] target in
      same-alike e (tell x s) (tell (renumbered_fired e.f x) (other e s)) (tell (fired_at (other e s) name [] target) (other e s)) (ap (λ y. tell y (other e s)) (fired-is e s name [] target)) (t x s h)

  pub act-send-alike : (tell : Tell) → Tells e tell → (target : Option ℕ) → Goes e (act_send tell target) (act_send tell target)
  act-send-alike tell t target s h =
      let run : ℕ → Run = λ k u. tell (fired_at u (codes "xforms-submit") [] (submission_element u k)) u in
      kept-some e target run run s h (λ k. fire-alike tell t (codes "xforms-submit") (submission_element s k) s h)

  pub act-model-alike : (tell : Tell) → Tells e tell → (name : List ℕ) (model : ℕ) → Goes e (act_on_model tell name model) (act_on_model tell name model)
  act-model-alike tell t name model s h = fire-alike tell t name (model_element s model) s h

  -- ---- notes

  pub message-alike : (x : Acting) → Goes e (message e.p x) (message e.p (renumbered_acting e x))
  message-alike x s h =
      let y = renumbered_acting e x in
      let u = other e s in
      let form = interface s in
      let elements = elements-go e.f e.runs.renumbers s (has-form s h.form) in
      let one = inside form (quiet e.p s) x.rows x.element in
      eval-alike e (renumbered_inside e.f) (or_long s one) (or_long u (inside form (quiet e.p u) (map e.f x.rows) x.element))
      (λ within. or_long s (text_in form (surroundings e.p x s) within (element_at form x.element)) >>= λ text. add_note e.p (note.Message text) s)
      (λ within. or_long u (text_in form (surroundings e.p y u) within (element_at form x.element)) >>= λ text. add_note e.p (note.Message text) u)
      (ap (or_long u) (inside-goes e.f e.runs.renumbers (quiet e.p s) (quiet e.p u) (around-goes e.p e.f e.runs.renumbers e.second s (has-form s h.form) None) form (λ n. (elements n).binding) x.rows x.element)
      ∙ long-mapped e (renumbered_inside e.f) s one)
      (λ within. let text = text_in form (surroundings e.p x s) within (element_at form x.element) in
      kept-alike e (or_long s text) (or_long u (text_in form (surroundings e.p y u) (renumbered_inside e.f within) (element_at form x.element))) (λ z. add_note e.p (note.Message z) s) (λ z. add_note e.p (note.Message z) u)
      (ap (or_long u) (text-goes e.f e.runs.renumbers form elements (surroundings e.p x s) (surroundings e.p y u) (seen-goes e x s h) within x.element) ∙ long-same e s text)
      (λ z. note-alike e (note.Message z) s h))

  bound-goes : (x : Acting) (s : State) → Fits e s → (b : Bound) → BoundGoes e.f b
      → or_long (other e s) (bound_text (surroundings e.p (renumbered_acting e x) (other e s)) (record { model = x.model; focus = Some (renumbered_focus e.f x.focus) }) b)
      ≡ or_long s (bound_text (surroundings e.p x s) (record { model = x.model; focus = Some x.focus }) b)
  bound-goes x s h b r =
      let c : Context = record { model = x.model; focus = Some x.focus } in
      ap (or_long (other e s))
      (bound-text e.f e.runs.renumbers (interface s) (elements-go e.f e.runs.renumbers s (has-form s h.form)) (surroundings e.p x s) (surroundings e.p (renumbered_acting e x) (other e s)) (seen-goes e x s h) c b r)
      ∙ long-same e s (bound_text (surroundings e.p x s) c b)

  loaded-goes : (x : Acting) (resource : List ℕ) (s : State) → Fits e s → (b : Bound) → BoundGoes e.f b
      → loaded_text e.p (renumbered_acting e x) resource (other e s) b ≡ loaded_text e.p x resource s b
  loaded-goes x resource s h unbound r = refl
  loaded-goes x resource s h (nodes m) r = bound-goes x s h (nodes m) r
  loaded-goes x resource s h (by_bind k) r = bound-goes x s h (by_bind k) r

  pub load-alike : (x : Acting) (resource : List ℕ) → Goes e (load e.p x resource) (load e.p (renumbered_acting e x) resource)
  load-alike x resource s h =
      kept-alike e (loaded_text e.p x resource s (binding_of x s)) (loaded_text e.p (renumbered_acting e x) resource (other e s) (binding_of x s)) (λ text. add_note e.p (note.Load text) s)
      (λ text. add_note e.p (note.Load text) (other e s)) (loaded-goes x resource s h (binding_of x s) (own-goes e x s h)) (λ text. note-alike e (note.Load text) s h)

  pub focus-alike : (n : ℕ) → Goes e (focus e.p n) (focus e.p n)
  focus-alike n s h =
      let run : List ℕ → Run = λ rows t. add_note e.p (note.Focus (element_at (interface t) n).id) t in
      some-alike e (map e.f) (named_copy s n) (named_copy (other e s) n) run run s (named-goes s n) h (λ rows. note-alike e (note.Focus (element_at (interface s) n).id) s h)

  -- ---- a tree in place of another, and a reset

  replace-at-alike : (n : ℕ) (contents : List (ℕ × Content)) (at : ℕ × ℕ) → Goes e (replace_at e.p n contents at) (replace_at e.p (e.f n) contents (e.f at.0, at.1))
  replace-at-alike n contents (parent, place) s h =
      made-then e e.f (Any e) (plant e.p contents s) (plant e.p contents (other e s)) (λ made. attach e.p made.0 parent place (detach n made.1)) (λ made. attach e.p made.0 (e.f parent) place (detach (e.f n) made.1))
      (plant-made e contents s h)
      (λ made k u. let after = detach n made.1 in
      same-alike e (attach e.p made.0 parent place after) (attach e.p (e.f made.0) (e.f parent) place (other e after)) (attach e.p (e.f made.0) (e.f parent) place (detach (e.f n) (other e made.1)))
      (ap (attach e.p (e.f made.0) (e.f parent) place) (detach-is e n made.1 k)) (attach-alike e made.0 parent place after (detach-fits e n made.1 k)))

  pub replace-alike : (n : ℕ) (contents : List (ℕ × Content)) → Goes e (replace e.p n contents) (replace e.p (e.f n) contents)
  replace-alike n contents s h =
      some-alike e (λ (at : ℕ × ℕ). (e.f at.0, at.1)) (standing n s.forest.nodes) (standing (e.f n) (map (renumbered e.f) s.forest.nodes)) (replace_at e.p n contents) (replace_at e.p (e.f n) contents) s
      (standing-renumbered e.f e.runs.renumbers n s.forest.nodes) h (λ at. replace-at-alike n contents at s h)

  back-alike : (first : Result State Refused) (place : ℕ) → Goes e (put_back e.p first place) (put_back e.p first place)
  back-alike first place s h =
      let run : ℕ → Run = λ n. replace e.p n (first_contents first place) in
      some-alike e e.f (document_at s place) (document_at (other e s) place) run run s (document-goes e.f e.runs.renumbers e.second s place) h (λ n. replace-alike n (first_contents first place) s h)

  pub reset-alike : (model : ℕ) → Goes e (reset e.p model) (reset e.p model)
  reset-alike model s h =
      let first = construct e.p s.form in
      let all = in_turn (put_back e.p first) (instances_of s model) in
      then-alike e (all s) (all (other e s)) (reindex e.p []) (reindex e.p [])
      (kept-turn e (put_back e.p first) (put_back e.p first) (instances_of s model) (back-alike first) s h) (reindex-alike e [])
