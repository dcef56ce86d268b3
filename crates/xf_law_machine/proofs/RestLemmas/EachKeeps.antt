-- What each change of a state keeps, every change of the machine keeps: here those of the behaviours, of updates, and of actions.
use Rattle.std.proofs.Common.{ℕ, zero, suc, ◌≡◌, Bool, true, false, List, [], ◌∷◌, ◌++◌, map, not, codes, length, nat_lt, ◌==◌, zip, option_map, Option, Some, None, Result, Ok, Err, refl, sym, subst, get_or}
use Rattle.xf_store.specs.declared.answers.Answer.{Answer}
use Rattle.xf_store.specs.declared.call.Asked.{Asked}
use Rattle.xf_def_syntax.specs.declared.action.DispatchWork.{DispatchWork}
use Rattle.xf_def_forest.specs.declared.content.Content.{Content}
use Rattle.xf_def_forest.specs.Shape.{has_elements}
use Rattle.xf_def_forest.specs.Changes.{standing}
use Rattle.xf_def_values.specs.Conversions.{Decimal}
use Rattle.xf_def_xpath.specs.Setting.{Meaning}
use Rattle.xf_def_xpath.specs.Setting as setting
use Rattle.xf_def_model.specs.Places.{Place, planned_insert}
use Rattle.xf_def_model.specs.Taken.{planned_delete}
use Rattle.xf_def_model.specs.Pertinent.{AllOf}
use Rattle.xf_def_ui.specs.Copies.{Copy}
use Rattle.xf_def_ui.specs.Index.{Index, Stop, brought_up}
use Rattle.xf_def_ui.specs.Notifications.{notifications}
use Rattle.xf_def_ui.specs.Elements.{element_at}
use Rattle.xf_def_ui.specs.Around.{first_bound}
use Rattle.xf_def_ui.specs.Cases.{cases_of, place_of_case}
use Rattle.xf_def_ui.specs.Context.{inside}
use Rattle.xf_def_ui.specs.Labels.{text_in}
use Rattle.xf_def_ui.specs.Started.{index_set}
use Rattle.xf_def_machine.specs.declared.limit.LimitWord.{LimitWord}
use Rattle.xf_def_machine.specs.declared.limit.LimitWord.TheVariants.{Notes}
use Rattle.xf_def_machine.specs.declared.note.Note.{Note}
use Rattle.xf_def_machine.specs.declared.note.Note.TheVariants.{Message, Load, Focus}
use Rattle.xf_def_machine.specs.NoteLines.{notes_size}
use Rattle.xf_def_machine.specs.Profile.{Profile}
use Rattle.xf_def_machine.specs.Program.{InsertBy, DeleteBy}
use Rattle.xf_def_machine.specs.State.{Model, State}
use Rattle.xf_def_machine.specs.Refusal.{Refused, unless_passed, if_over, or_long}
use Rattle.xf_def_machine.specs.Flow.{Run, ◌>>=◌, when, where_some, in_turn}
use Rattle.xf_def_machine.specs.Surround.{Told, interface, all_in, document_at, instance_holding, quiet}
use Rattle.xf_def_machine.specs.Primitives.{spent_from, spend, in_model, refresh_due, set_text, copy, plant, attach, detach, with_indexes, set_case, add_note}
use Rattle.xf_def_machine.specs.Properties.{readonly_in}
use Rattle.xf_def_machine.specs.Cycles.{counted_from}
use Rattle.xf_def_machine.specs.Behave.{no_model, model_at, rebuild, recalculate, revalidate}
use Rattle.xf_def_machine.specs.Update.{with_brought, reindex, shown, refresh, refresh_cleared, all_cleared, due_rebuild, due_recalculation, due_revalidation, is_due, is_refresh_due, round, rounds, update}
use Rattle.xf_def_machine.specs.Events.{Fired, Tell, told_by, fired_at, fired, plainly, model_element, submission_element}
use Rattle.xf_def_machine.specs.Acting.{Acting, surroundings, binding_of, whole_for}
use Rattle.xf_def_machine.specs.SetValue.{unless_parent, set_node, set_open, set_value, value_asked}
use Rattle.xf_def_machine.specs.Insert.{insert_told, location_of, asked_with, copies_of, without_one, put_copy, tell_instance, inserted, insert_at, insert, set_asked, origin_asked, place_asked, moved_focus}
use Rattle.xf_def_machine.specs.Delete as delete
use Rattle.xf_def_machine.specs.Choose.{named_copy, not_below_zero, switch_number, set_index, act_index, toggled, unless_same, toggle_in, toggle, act_dispatch, act_send, act_on_model}
use Rattle.xf_def_machine.specs.Telling.{message, loaded_text, load, focus}
use Rattle.xf_def_machine.specs.Construct.{replace_at, replace, construct, first_contents, put_back, instances_of, reset}
use Rattle.xf_def_machine.specs.Exchange.{with_call}
use Rattle.xf_law_machine.specs.Behaviours.Chain.{NoRebuild, NoneBefore}
use Rattle.xf_law_machine.specs.Rest.Rests.{are_filled}
use Rattle.xf_law_machine.proofs.RestLemmas.Holds.{Held, held-then, held-any, held-both, held-when, held-some, held-turn}
use Rattle.xf_law_machine.proofs.RestLemmas.FlagLaws.{IsCalm, CalmAt, due-rebuilt, due-recalculated, all-calm}

-- the changes that all others are made of
pub record KeepsEach (p : Profile) (P : State → Type 0) : Type 0 where
  pub turns : (left : ℕ) (s : State) → P s → P (record s { turns = left })
  pub notes : (notes : List Note) (s : State) → P s → P (record s { notes = notes })
  pub calls : (name : List ℕ) (asked : Asked) (answer : Answer) (s : State) → P s → P (with_call name asked answer s)
  pub controls : (list : List Copy) (s : State) → P s → P (record s { controls = list })
  pub indexes : (indexes : List Index) (s : State) → P s → P (with_indexes indexes s)
  pub case_set : (k place : ℕ) (s : State) → P s → P (set_case k place s)
  pub refresh_due : (model : ℕ) (s : State) → P s → P (in_model refresh_due model s)
  pub text : (n : ℕ) (text : List ℕ) (s : State) → P s → Held P (set_text p n text s)
  pub copy : (n : ℕ) (s : State) → P s → Held (λ q. P q.1) (copy p n s)
  pub plant : (contents : List (ℕ × Content)) (s : State) → are_filled contents ≡ true → P s → Held (λ q. P q.1) (plant p contents s)
  pub attach : (n parent place : ℕ) (s : State) → P s → Held P (attach p n parent place s)
  pub detach : (n : ℕ) (s : State) → P s → P (detach n s)
  pub rebuild : (model : ℕ) (s : State) → P s → Held P (rebuild p model s)
  pub recalculate : (model : ℕ) (s : State) → NoRebuild model s → P s → Held P (recalculate p model s)
  pub revalidate : (model : ℕ) (s : State) → NoneBefore model s → P s → P (revalidate p model s)
  pub cleared : (model : ℕ) (s : State) → CalmAt model s → P s → P (refresh_cleared model s)
  pub all_cleared : (s : State) → AllOf IsCalm s.models → P s → P (all_cleared s)
  -- what a reset puts back has no empty texts
  pub first : (place : ℕ) (s : State) → P s → are_filled (first_contents (construct p s.form) place) ≡ true

abbrev pub Keeping : (State → Type 0) → Run → Type 0
Keeping P run = (s : State) → P s → Held P (run s)

abbrev pub Telling : (State → Type 0) → Tell → Type 0
Telling P tell = (e : Fired) → Keeping P (tell e)

module _ (p : Profile) (P : State → Type 0) (k : KeepsEach p P) where
  spent-keeps : (left : ℕ) (s : State) → P s → Held P (spent_from left s)
  spent-keeps zero s h = tt
  spent-keeps (suc left) s h = k.turns left s h

  pub spend-keeps : Keeping P spend
  spend-keeps s h = spent-keeps s.turns s h

  noted-keeps : (words : List LimitWord) (notes : List Note) (s : State) → P s → Held P (unless_passed s words (record s { notes = notes }))
  noted-keeps [] notes s h = k.notes notes s h
  noted-keeps (word ∷ words) notes s h = tt

  pub note-keeps : (note : Note) → Keeping P (add_note p note)
  note-keeps note s h = let notes = s.notes ++ note ∷ [] in noted-keeps (if_over (nat_lt p.notes (notes_size notes)) Notes) notes s h

  -- ---- what is due

  pub due-rebuild-keeps : (model : ℕ) → Keeping P (due_rebuild p model)
  due-rebuild-keeps model s h = held-when P (model_at s model).flags.rebuild (rebuild p model) s h (k.rebuild model s h)

  pub due-recalculation-keeps : (model : ℕ) → Keeping P (due_recalculation p model)
  due-recalculation-keeps model s h =
      held-then (λ t. P t × NoRebuild model t) P (due_rebuild p model s) _
      (held-both P (NoRebuild model) (due_rebuild p model s) (due-rebuild-keeps model s h) (due-rebuilt p model s))
      (λ t i. held-when P (model_at t model).flags.recalculate (recalculate p model) t i.0 (k.recalculate model t i.1 i.0))

  pub due-revalidation-keeps : (model : ℕ) → Keeping P (due_revalidation p model)
  due-revalidation-keeps model s h =
      held-then (λ t. P t × NoneBefore model t) P (due_recalculation p model s) _
      (held-both P (NoneBefore model) (due_recalculation p model s) (due-recalculation-keeps model s h) (due-recalculated p model s))
      (λ t i. held-when P (model_at t model).flags.revalidate (λ u. Ok (revalidate p model u)) t i.0 (k.revalidate model t i.1 i.0))

  -- ---- indexes and refreshes

  brought-keeps : (r : Result (List Index) Stop) (s : State) → P s → Held P (with_brought s r)
  brought-keeps (Err stop) s h = tt
  brought-keeps (Ok indexes) s h = k.indexes indexes s h

  pub reindex-keeps : (added : List ℕ) → Keeping P (reindex p added)
  reindex-keeps added s h = brought-keeps (brought_up p.passes (interface s) (quiet p s) added s.indexes) s h

  shown-keeps : (tell : Tell) → Telling P tell → (cleared : State → State) (s : State) → P s → ((t : State) → t.models ≡ s.models → P t → P (cleared t))
      → Held P (shown p s >>= λ list. in_turn (λ n. tell (told_by n)) (notifications s.controls list) (cleared (record s { controls = list })))
  shown-keeps tell t cleared s h c =
      held-any P (shown p s) _
      (λ list. held-turn P (λ n. tell (told_by n)) (notifications s.controls list) (λ n. t (told_by n)) (cleared (record s { controls = list }))
      (c (record s { controls = list }) refl (k.controls list s h)))

  refreshed-keeps : (tell : Tell) → Telling P tell → (cleared : State → State) (s : State) → P s → ((t : State) → t.models ≡ s.models → P t → P (cleared t))
      → (r : Result (List Index) Stop)
      → Held P (with_brought s r >>= λ t. shown p t >>= λ list. in_turn (λ n. tell (told_by n)) (notifications t.controls list) (cleared (record t { controls = list })))
  refreshed-keeps tell t cleared s h c (Err stop) = tt
  refreshed-keeps tell t cleared s h c (Ok indexes) = shown-keeps tell t cleared (with_indexes indexes s) (k.indexes indexes s h) c

  pub refresh-keeps : (tell : Tell) → Telling P tell → (cleared : State → State) (s : State) → P s → ((t : State) → t.models ≡ s.models → P t → P (cleared t))
      → Held P (refresh p cleared tell s)
  refresh-keeps tell t cleared s h c = refreshed-keeps tell t cleared s h c (brought_up p.passes (interface s) (quiet p s) [] s.indexes)

  pub clear-keeps : (tell : Tell) → Telling P tell → (model : ℕ) (s : State) → CalmAt model s → P s → Held P (refresh p (refresh_cleared model) tell s)
  clear-keeps tell t model s c h = refresh-keeps tell t (refresh_cleared model) s h (λ u e i. k.cleared model u (calm u e) i)
    where
      calm : (u : State) → u.models ≡ s.models → CalmAt model u
      calm u e = subst (λ (ms : List Model). IsCalm (get_or ms model no_model)) (sym e) c

  -- ---- updates

  round-keeps : (tell : Tell) → Telling P tell → Keeping P (round p tell)
  round-keeps tell t s h =
      held-then (λ u. P u × AllOf IsCalm u.models) P (in_turn (due_revalidation p) (counted_from 0 (length s.models)) s) _
      (held-both P (λ u. AllOf IsCalm u.models) (in_turn (due_revalidation p) (counted_from 0 (length s.models)) s)
      (held-turn P (due_revalidation p) (counted_from 0 (length s.models)) due-revalidation-keeps s h) (all-calm p s))
      (λ u i. held-when P (is_refresh_due u) (refresh p all_cleared tell) u i.0
      (refresh-keeps tell t all_cleared u i.0 (λ v e j. k.all_cleared v (subst (λ (ms : List Model). AllOf IsCalm ms) (sym e) i.1) j)))

  rounds-keep : (left : ℕ) (once : Run) → Keeping P once → Keeping P (rounds left once)
  rounds-keep zero once o s h = tt
  rounds-keep (suc left) once o s h =
      held-when P (is_due s) (λ t. spend t >>= once >>= rounds left once) s h
      (held-then P P (spend s >>= once) (rounds left once) (held-then P P (spend s) once (spend-keeps s h) o) (rounds-keep left once o))

  pub update-keeps : (tell : Tell) → Telling P tell → Keeping P (update p tell)
  update-keeps tell t s h = rounds-keep (suc s.turns) (round p tell) (round-keeps tell t) s h

  -- ---- setvalue

  parent-keeps : (b : Bool) (n : ℕ) (set : Run) → Keeping P set → Keeping P (unless_parent b n set)
  parent-keeps false n set o s h = o s h
  parent-keeps true n set o s h = tt

  pub set-node-keeps : (n : ℕ) (text : List ℕ) → Keeping P (set_node p n text)
  set-node-keeps n text s h = parent-keeps (has_elements (all_in s) n) n (set_text p n text) (k.text n text) s h

  set-open-keeps : (x : Acting) (value : Option Meaning) (n : ℕ) → Keeping P (set_open p x value n)
  set-open-keeps x value n s h =
      parent-keeps (has_elements (all_in s) n) n (λ t. value_asked p x t n value >>= λ text. set_text p n text t)
      (λ t i. held-any P (value_asked p x t n value) (λ text. set_text p n text t) (λ text. k.text n text t i)) s h

  pub set-value-keeps : (x : Acting) (value : Option Meaning) → Keeping P (set_value p x value)
  set-value-keeps x value s h =
      held-any P (or_long s (first_bound (surroundings p x s) x.model (binding_of x s) (Some x.focus))) _
      (λ bound. held-some P bound (λ n t. when (not (readonly_in t n)) (set_open p x value n) t) s h
      (λ n. held-when P (not (readonly_in s n)) (set_open p x value n) s h (set-open-keeps x value n s h)))

  -- ---- insert

  copies-keep : (ns : List ℕ) (s : State) → P s → Held (λ q. P q.1) (copies_of p ns s)
  copies-keep [] s h = h
  copies-keep (n ∷ ns) s h =
      held-then (λ q. P q.1) (λ q. P q.1) (copy p n s) _ (k.copy n s h)
      (λ one i. held-then (λ q. P q.1) (λ q. P q.1) (copies_of p ns one.1) _ (copies-keep ns one.1 i) (λ more j. j))

  without-keeps : (o : Option ℕ) (s : State) → P s → P (without_one o s)
  without-keeps None s h = h
  without-keeps (Some n) s h = k.detach n s h

  put-copy-keeps : (tops : List ℕ) (one : Place × ℕ) → Keeping P (put_copy p tops one)
  put-copy-keeps tops (place, top) s h =
      k.attach top place.parent place.place (without_one (option_map (λ n. get_or tops n 0) place.again) (without_one place.replaces s))
      (without-keeps (option_map (λ n. get_or tops n 0) place.again) (without_one place.replaces s) (without-keeps place.replaces s h))

  tell-instance-keeps : (tell : Tell) → Telling P tell → (name : List ℕ) (told : State → Told) (place : Option ℕ) → Keeping P (tell_instance tell name told place)
  tell-instance-keeps tell t name told place s h =
      held-some P place (λ i u. tell (fired_at u name (told u) (get_or u.form.instance_elements i 0)) u) s h
      (λ i. t (fired_at s name (told s) (get_or s.form.instance_elements i 0)) s h)

  inserted-keeps : (tell : Tell) → Telling P tell → (is_before : Bool) (location : List ℕ) (places : List Place) → Keeping P (inserted p tell is_before location places)
  inserted-keeps tell t is_before location [] s h = h
  inserted-keeps tell t is_before location (place ∷ places) s h =
      let origins = map (λ q. q.origin) (place ∷ places) in
      held-then (λ q. P q.1) P (copies_of p origins s) _ (copies-keep origins s h)
      (λ made i. held-then P P (in_turn (put_copy p made.0) (zip (place ∷ places) made.0) made.1 >>= reindex p made.0) _
      (held-then P P (in_turn (put_copy p made.0) (zip (place ∷ places) made.0) made.1) (reindex p made.0)
      (held-turn P (put_copy p made.0) (zip (place ∷ places) made.0) (put-copy-keeps made.0) made.1 i) (reindex-keeps made.0))
      (tell-instance-keeps tell t (codes "xforms-insert") (λ u. insert_told u is_before made.0 origins location) (instance_holding s place.parent)))

  insert-at-keeps : (tell : Tell) → Telling P tell → (x : Acting) (w : InsertBy) (c : setting.Focus) → Keeping P (insert_at p tell x w c)
  insert-at-keeps tell t x w c s h =
      held-any P (set_asked p x c s) _ (λ set. held-any P (origin_asked p x c w.origin set s) _ (λ origin. held-any P (place_asked p x w.at origin set s) _
      (λ at. inserted-keeps tell t w.is_before (location_of at c set) (planned_insert s.forest.nodes (asked_with w s c set origin at)) s h)))

  pub insert-keeps : (tell : Tell) → Telling P tell → (x : Acting) (w : InsertBy) → Keeping P (insert p tell x w)
  insert-keeps tell t x w s h = held-any P (moved_focus p x w.context s) _ (λ c. held-some P c (insert_at p tell x w) s h (λ one. insert-at-keeps tell t x w one s h))

  -- ---- delete

  deleted-keeps : (tell : Tell) → Telling P tell → (location : Decimal) (ns : List ℕ) → Keeping P (delete.deleted p tell location ns)
  deleted-keeps tell t location [] s h = h
  deleted-keeps tell t location (n ∷ ns) s h =
      held-then P P (in_turn (λ m u. Ok (detach m u)) (n ∷ ns) s >>= reindex p []) _
      (held-then P P (in_turn (λ m u. Ok (detach m u)) (n ∷ ns) s) (reindex p []) (held-turn P (λ m u. Ok (detach m u)) (n ∷ ns) k.detach s h) (reindex-keeps []))
      (tell-instance-keeps tell t (codes "xforms-delete") (λ u. delete.delete_told u (n ∷ ns) location) (instance_holding s n))

  delete-at-keeps : (tell : Tell) → Telling P tell → (x : Acting) (w : DeleteBy) (c : setting.Focus) → Keeping P (delete.delete_at p tell x w c)
  delete-at-keeps tell t x w c s h =
      held-any P (set_asked p x c s) _ (λ set. held-any P (delete.at_asked p x w.at set s) _
      (λ at. deleted-keeps tell t (delete.location_of s.form.decimals set at) (planned_delete s.forest.nodes (delete.asked_with s set at)) s h))

  pub delete-keeps : (tell : Tell) → Telling P tell → (x : Acting) (w : DeleteBy) → Keeping P (delete.delete p tell x w)
  delete-keeps tell t x w s h =
      held-any P (moved_focus p x w.context s) _ (λ c. held-some P c (delete.delete_at p tell x w) s h (λ one. delete-at-keeps tell t x w one s h))

  -- ---- rows, cases and events

  pub set-index-keeps : (model r n : ℕ) → Keeping P (set_index p model r n)
  set-index-keeps model r n s h =
      held-any P (or_long s (index_set (interface s) (quiet p s) r n s.indexes)) _ (λ indexes. k.refresh_due model (with_indexes indexes s) (k.indexes indexes s h))

  pub act-index-keeps : (x : Acting) (place : ℕ) (m : Meaning) → Keeping P (act_index p x place m)
  act-index-keeps x place m s h =
      let r = get_or (interface s).repeats place 0 in
      held-some P (named_copy s r)
      (λ rows t. whole_for p x t x.focus m >>= λ number. where_some (option_map not_below_zero number) (set_index p x.model r) t) s h
      (λ rows. held-any P (whole_for p x s x.focus m) _
      (λ number. held-some P (option_map not_below_zero number) (set_index p x.model r) s h (λ n. set-index-keeps x.model r n s h)))

  toggled-keeps : (tell : Tell) → Telling P tell → (model switch place one : ℕ) (rows : List ℕ) → Keeping P (toggled tell model switch place one rows)
  toggled-keeps tell t model switch place one rows s h =
      let old = get_or (cases_of (interface s) (get_or (interface s).switches switch 0)) (get_or s.cases switch 0) 0 in
      let after = in_model refresh_due model (set_case switch place s) in
      held-then P P (tell (plainly (codes "xforms-deselect") old rows) after) (tell (plainly (codes "xforms-select") one rows))
      (t (plainly (codes "xforms-deselect") old rows) after (k.refresh_due model (set_case switch place s) (k.case_set switch place s h)))
      (t (plainly (codes "xforms-select") one rows))

  same-keeps : (b : Bool) (run : Run) → Keeping P run → Keeping P (unless_same b run)
  same-keeps true run o s h = h
  same-keeps false run o s h = o s h

  toggle-in-keeps : (tell : Tell) → Telling P tell → (model one parent : ℕ) → Keeping P (toggle_in tell model one parent)
  toggle-in-keeps tell t model one parent s h =
      let q = switch_number (element_at (interface s) parent).sort in
      let place = place_of_case (interface s) parent one in
      same-keeps (place == get_or s.cases q 0) (λ u. where_some (named_copy u one) (toggled tell model q place one) u)
      (λ u i. held-some P (named_copy u one) (toggled tell model q place one) u i (λ rows. toggled-keeps tell t model q place one rows u i)) s h

  pub toggle-keeps : (tell : Tell) → Telling P tell → (model one : ℕ) → Keeping P (toggle tell model one)
  toggle-keeps tell t model one s h = held-some P (element_at (interface s) one).parent (toggle_in tell model one) s h (λ parent. toggle-in-keeps tell t model one parent s h)

  pub act-dispatch-keeps : (tell : Tell) → Telling P tell → (w : DispatchWork) → Keeping P (act_dispatch tell w)
  act-dispatch-keeps tell t w s h =
      held-some P (named_copy s w.target) (λ rows u. tell (fired w.name w.bubbles w.is_cancelable [] w.target rows) u) s h
      (λ rows. t (fired w.name w.bubbles w.is_cancelable [] w.target rows) s h)

  pub act-send-keeps : (tell : Tell) → Telling P tell → (target : Option ℕ) → Keeping P (act_send tell target)
  act-send-keeps tell t target s h =
      held-some P target (λ n u. tell (fired_at u (codes "xforms-submit") [] (submission_element u n)) u) s h
      (λ n. t (fired_at s (codes "xforms-submit") [] (submission_element s n)) s h)

  pub act-model-keeps : (tell : Tell) → Telling P tell → (name : List ℕ) (model : ℕ) → Keeping P (act_on_model tell name model)
  act-model-keeps tell t name model s h = t (fired_at s name [] (model_element s model)) s h

  -- ---- notes

  pub message-keeps : (x : Acting) → Keeping P (message p x)
  message-keeps x s h =
      held-any P (or_long s (inside (interface s) (quiet p s) x.rows x.element)) _
      (λ within. held-any P (or_long s (text_in (interface s) (surroundings p x s) within (element_at (interface s) x.element))) _
      (λ text. note-keeps (Message text) s h))

  pub load-keeps : (x : Acting) (resource : List ℕ) → Keeping P (load p x resource)
  load-keeps x resource s h = held-any P (loaded_text p x resource s (binding_of x s)) _ (λ text. note-keeps (Load text) s h)

  pub focus-keeps : (n : ℕ) → Keeping P (focus p n)
  focus-keeps n s h =
      held-some P (named_copy s n) (λ rows t. add_note p (Focus (element_at (interface t) n).id) t) s h (λ rows. note-keeps (Focus (element_at (interface s) n).id) s h)

  -- ---- a tree in place of another, and a reset

  replace-at-keeps : (n : ℕ) (contents : List (ℕ × Content)) (at : ℕ × ℕ) → are_filled contents ≡ true → Keeping P (replace_at p n contents at)
  replace-at-keeps n contents (parent, place) f s h =
      held-then (λ q. P q.1) P (plant p contents s) _ (k.plant contents s f h) (λ made i. k.attach made.0 parent place (detach n made.1) (k.detach n made.1 i))

  pub replace-keeps : (n : ℕ) (contents : List (ℕ × Content)) → are_filled contents ≡ true → Keeping P (replace p n contents)
  replace-keeps n contents f s h = held-some P (standing n s.forest.nodes) (replace_at p n contents) s h (λ at. replace-at-keeps n contents at f s h)

  put-back-keeps : (first : Result State Refused) (place : ℕ) → are_filled (first_contents first place) ≡ true → Keeping P (put_back p first place)
  put-back-keeps first place f s h = held-some P (document_at s place) (λ n. replace p n (first_contents first place)) s h (λ n. replace-keeps n (first_contents first place) f s h)

  pub reset-keeps : (model : ℕ) → Keeping P (reset p model)
  reset-keeps model s h =
      let first = construct p s.form in
      held-then P P (in_turn (put_back p first) (instances_of s model) s) (reindex p [])
      (held-turn P (put_back p first) (instances_of s model) (λ place. put-back-keeps first place (k.first place s h)) s h) (reindex-keeps [])
