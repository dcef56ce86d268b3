-- What each change of a state keeps, every change of the machine keeps, where changes are told why they are made: a text is set at a node without
-- element children, and a switch takes a case that an action of the form toggles. Here those of the behaviours, of updates, and of actions.
use Rattle.std.proofs.Common.{ℕ, zero, suc, ◌≡◌, Bool, true, false, List, [], ◌∷◌, ◌++◌, map, not, codes, length, nat_lt, ◌==◌, zip, option_map, Option, Some, Result, Ok, Err, refl, sym, ap, ◌∙◌, subst, get_or}
use Rattle.xf_def_syntax.specs.declared.action.DispatchWork.{DispatchWork}
use Rattle.xf_def_forest.specs.declared.content.Content.{Content}
use Rattle.xf_def_forest.specs.declared.content.Kind.TheVariants.{Element}
use Rattle.xf_def_forest.specs.Forest.{kind_at}
use Rattle.xf_def_forest.specs.Shape.{has_elements}
use Rattle.xf_law_forests.specs.Root.Roots.{IsNoRoot}
use Rattle.xf_def_values.specs.Conversions.{Decimal}
use Rattle.xf_def_xpath.specs.Setting.{Meaning}
use Rattle.xf_def_xpath.specs.Setting as setting
use Rattle.xf_def_model.specs.declared.asked.DeleteAsked.{DeleteAsked}
use Rattle.xf_def_model.specs.declared.asked.InsertAsked.{InsertAsked}
use Rattle.xf_def_model.specs.Places.{Place, planned_insert}
use Rattle.xf_def_model.specs.Taken.{planned_delete}
use Rattle.xf_def_model.specs.Pertinent.{AllOf}
use Rattle.xf_def_ui.specs.Copies.{Copy}
use Rattle.xf_def_ui.specs.Index.{Index, Stop, brought_up}
use Rattle.xf_def_ui.specs.Notifications.{notifications}
use Rattle.xf_def_ui.specs.Elements.{element_at}
use Rattle.xf_def_ui.specs.Around.{all_bound, first_bound}
use Rattle.xf_def_ui.specs.Cases.{cases_of, place_of_case}
use Rattle.xf_def_ui.specs.Context.{inside}
use Rattle.xf_def_ui.specs.Labels.{text_in}
use Rattle.xf_def_machine.specs.declared.limit.LimitWord.{LimitWord}
use Rattle.xf_def_machine.specs.declared.limit.LimitWord.TheVariants.{Notes}
use Rattle.xf_def_machine.specs.declared.note.Note.{Note}
use Rattle.xf_def_machine.specs.declared.note.Note.TheVariants.{Message, Load, Focus}
use Rattle.xf_def_machine.specs.NoteLines.{notes_size}
use Rattle.xf_def_machine.specs.Profile.{Profile}
use Rattle.xf_def_machine.specs.Program.{Program, InsertBy, DeleteBy}
use Rattle.xf_def_machine.specs.State.{Model, State}
use Rattle.xf_def_machine.specs.Refusal.{Refused, unless_passed, if_over, or_long}
use Rattle.xf_def_machine.specs.Flow.{Run, ◌>>=◌, when, where_some, in_turn}
use Rattle.xf_def_machine.specs.Surround.{Told, interface, all_in, document_at, instance_holding, quiet}
use Rattle.xf_def_machine.specs.Primitives.{spent_from, spend, in_model, refresh_due, set_text, detach, set_case, with_indexes, add_note}
use Rattle.xf_def_machine.specs.Properties.{readonly_in}
use Rattle.xf_def_machine.specs.Cycles.{counted_from}
use Rattle.xf_def_machine.specs.Behave.{no_model, model_at, rebuild, recalculate, revalidate}
use Rattle.xf_def_machine.specs.Update.{with_brought, reindex, shown, refresh, refresh_cleared, all_cleared, due_rebuild, due_recalculation, due_revalidation, is_due, is_refresh_due, round, rounds, update}
use Rattle.xf_def_machine.specs.Events.{Fired, Tell, told_by, fired_at, fired, plainly, model_element, submission_element}
use Rattle.xf_def_machine.specs.Acting.{Acting, surroundings, binding_of, whole_for}
use Rattle.xf_def_machine.specs.SetValue.{unless_parent, set_node, set_open, set_value, value_asked}
use Rattle.xf_def_machine.specs.Insert.{insert_told, location_of, asked_with, copies_of, put_copy, tell_instance, inserted, insert_at, insert, set_asked, origin_asked, place_asked, moved_focus}
use Rattle.xf_def_machine.specs.Delete as delete
use Rattle.xf_def_machine.specs.Choose.{named_copy, not_below_zero, switch_number, set_index, act_index, toggled, unless_same, toggle_in, toggle, act_dispatch, act_send, act_on_model}
use Rattle.xf_def_machine.specs.Telling.{message, loaded_text, load, focus}
use Rattle.xf_def_machine.specs.Construct.{replace, construct, first_contents, put_back, instances_of, reset}
use Rattle.xf_law_machine.specs.Behaviours.Chain.{NoRebuild, NoneBefore}
use Rattle.xf_law_machine.proofs.RestLemmas.Holds.{Held, held-is, held-then, held-any, held-both, held-when, held-some, held-turn}
use Rattle.xf_law_machine.proofs.RestLemmas.FlagLaws.{IsCalm, CalmAt, due-rebuilt, due-recalculated, all-calm}
use Rattle.xf_law_invariants.specs.Whole.Cases.{IsToggled}
use Rattle.xf_law_invariants.proofs.WholeLemmas.Fitting.{held-some-is}
use Rattle.xf_law_invariants.specs.Frame.Base.{IsNewElement}
use Rattle.xf_law_invariants.specs.Frame.Each.{KeepsEach, IsBrought}
use Rattle.xf_law_invariants.proofs.FrameLemmas.Bound.{held-on, long-some, settable-by, first-bound-kind, all-bound-kinds, document-kind}

abbrev pub Keeping : (State → Type 0) → Run → Type 0
Keeping P run = (s : State) → P s → Held P (run s)

abbrev pub Telling : (State → Type 0) → Tell → Type 0
Telling P tell = (e : Fired) → Keeping P (tell e)

module _ (p : Profile) (form : Program) (first : ℕ) (P : State → Type 0) (k : KeepsEach p form first P) where
  spent-keeps : (left : ℕ) (s : State) → P s → Held P (spent_from left s)
  spent-keeps zero s h = tt
  spent-keeps (suc left) s h = k.turns left s h

  pub spend-keeps : Keeping P spend
  spend-keeps s h = spent-keeps s.turns s h

  noted-keeps : (words : List LimitWord) (notes : List Note) (s : State) → P s → Held P (unless_passed s words (record s { notes = notes }))
  noted-keeps [] notes s h = k.notes notes s h
  noted-keeps (word ∷ words) notes s h = tt

  pub note-keeps : (note : Note) → Keeping P (add_note p note)
  note-keeps note s h = let notes = s.notes ++ note ∷ [] in noted-keeps (if_over (nat_lt p.notes (notes_size notes)) Notes) notes s h

  -- ---- what is due

  pub due-rebuild-keeps : (model : ℕ) → Keeping P (due_rebuild p model)
  due-rebuild-keeps model s h = held-when P (model_at s model).flags.rebuild (rebuild p model) s h (k.rebuild model s h)

  pub due-recalculation-keeps : (model : ℕ) → Keeping P (due_recalculation p model)
  due-recalculation-keeps model s h =
      held-then (λ t. P t × NoRebuild model t) P (due_rebuild p model s) _
      (held-both P (NoRebuild model) (due_rebuild p model s) (due-rebuild-keeps model s h) (due-rebuilt p model s))
      (λ t i. held-when P (model_at t model).flags.recalculate (recalculate p model) t i.0 (k.recalculate model t i.1 i.0))

  pub due-revalidation-keeps : (model : ℕ) → Keeping P (due_revalidation p model)
  due-revalidation-keeps model s h =
      held-then (λ t. P t × NoneBefore model t) P (due_recalculation p model s) _
      (held-both P (NoneBefore model) (due_recalculation p model s) (due-recalculation-keeps model s h) (due-recalculated p model s))
      (λ t i. held-when P (model_at t model).flags.revalidate (λ u. Ok (revalidate p model u)) t i.0 (k.revalidate model t i.1 i.0))

  -- ---- indexes and refreshes

  pub reindex-keeps : Keeping P (reindex p [])
  reindex-keeps s h = k.brought s h

  -- the state after the list of the controls is another one
  abbrev pub Cleared : (State → State) → State → Type 0
  Cleared cleared s = (t : State) (list : List Copy) → t.models ≡ s.models → IsBrought p t → shown p t ≡ Ok list → P t → P (cleared (record t { controls = list }))

  brought-models : (added : List ℕ) (s t : State) → reindex p added s ≡ Ok t → t.models ≡ s.models
  brought-models added s t e = by (brought_up p.passes (interface s) (quiet p s) added s.indexes) e
    where
      by : (r : Result (List Index) Stop) → with_brought s r ≡ Ok t → t.models ≡ s.models
      by (Err stop) q = cc q
      by (Ok indexes) q = let same : with_indexes indexes s ≡ t = cc q in ap (λ (u : State). u.models) (sym same)

  pub refresh-keeps : (tell : Tell) → Telling P tell → (cleared : State → State) (s : State) → P s → Cleared cleared s → Held P (refresh p cleared tell s)
  refresh-keeps tell t cleared s h c =
      held-on P (reindex p [] s) (λ u. shown p u >>= λ list. in_turn (λ n. tell (told_by n)) (notifications u.controls list) (cleared (record u { controls = list }))) (λ u e.
      held-on P (shown p u) (λ list. in_turn (λ n. tell (told_by n)) (notifications u.controls list) (cleared (record u { controls = list }))) (λ list q.
      held-turn P (λ n. tell (told_by n)) (notifications u.controls list) (λ n. t (told_by n)) (cleared (record u { controls = list }))
      (c u list (brought-models [] s u e) (record { before = s; brought = e }) q (held-is P (reindex p [] s) u (k.brought s h) e))))

  pub clear-keeps : (tell : Tell) → Telling P tell → (model : ℕ) (s : State) → CalmAt model s → P s → Held P (refresh p (refresh_cleared model) tell s)
  clear-keeps tell t model s c h = refresh-keeps tell t (refresh_cleared model) s h (λ u list e b q i. k.cleared model list u (calm u e) b q i)
    where
      calm : (u : State) → u.models ≡ s.models → CalmAt model u
      calm u e = subst (λ (ms : List Model). IsCalm (get_or ms model no_model)) (sym e) c

  -- ---- updates

  round-keeps : (tell : Tell) → Telling P tell → Keeping P (round p tell)
  round-keeps tell t s h =
      held-then (λ u. P u × AllOf IsCalm u.models) P (in_turn (due_revalidation p) (counted_from 0 (length s.models)) s) _
      (held-both P (λ u. AllOf IsCalm u.models) (in_turn (due_revalidation p) (counted_from 0 (length s.models)) s)
      (held-turn P (due_revalidation p) (counted_from 0 (length s.models)) due-revalidation-keeps s h) (all-calm p s))
      (λ u i. held-when P (is_refresh_due u) (refresh p all_cleared tell) u i.0
      (refresh-keeps tell t all_cleared u i.0 (λ v list e b q j. k.all_cleared list v (subst (λ (ms : List Model). AllOf IsCalm ms) (sym e) i.1) b q j)))

  rounds-keep : (left : ℕ) (once : Run) → Keeping P once → Keeping P (rounds left once)
  rounds-keep zero once o s h = tt
  rounds-keep (suc left) once o s h =
      held-when P (is_due s) (λ t. spend t >>= once >>= rounds left once) s h
      (held-then P P (spend s >>= once) (rounds left once) (held-then P P (spend s) once (spend-keeps s h) o) (rounds-keep left once o))

  pub update-keeps : (tell : Tell) → Telling P tell → Keeping P (update p tell)
  update-keeps tell t s h = rounds-keep (suc s.turns) (round p tell) (round-keeps tell t) s h

  -- ---- setvalue

  parent-keeps : (b : Bool) (n : ℕ) (set : Run) (s : State) → P s → (b ≡ false → Held P (set s)) → Held P (unless_parent b n set s)
  parent-keeps false n set s h o = o refl
  parent-keeps true n set s h o = tt

  pub set-node-keeps : (n : ℕ) (text : List ℕ) (s : State) → IsNoRoot n s.forest → P s → Held P (set_node p n text s)
  set-node-keeps n text s is h = parent-keeps (has_elements (all_in s) n) n (set_text p n text) s h (λ e. k.text n text s (settable-by n s.forest is e) h)

  set-open-keeps : (x : Acting) (value : Option Meaning) (n : ℕ) (s : State) → IsNoRoot n s.forest → P s → Held P (set_open p x value n s)
  set-open-keeps x value n s is h =
      parent-keeps (has_elements (all_in s) n) n (λ t. value_asked p x t n value >>= λ text. set_text p n text t) s h
      (λ e. held-any P (value_asked p x s n value) (λ text. set_text p n text s) (λ text. k.text n text s (settable-by n s.forest is e) h))

  pub set-value-keeps : (x : Acting) (value : Option Meaning) → Keeping P (set_value p x value)
  set-value-keeps x value s h =
      held-on P (or_long s (first_bound (surroundings p x s) x.model (binding_of x s) (Some x.focus))) _
      (λ bound e. held-some-is P bound (λ n t. when (not (readonly_in t n)) (set_open p x value n) t) s h
      (λ n is. held-when P (not (readonly_in s n)) (set_open p x value n) s h
      (set-open-keeps x value n s (first-bound-kind p first s (k.base s h) (Some x.told) x.model (binding_of x s) (Some x.focus) n (long-some s (first_bound (surroundings p x s) x.model (binding_of x s) (Some x.focus)) bound e ∙ ap Some is)) h)))

  -- ---- insert

  tell-instance-keeps : (tell : Tell) → Telling P tell → (name : List ℕ) (told : State → Told) (place : Option ℕ) → Keeping P (tell_instance tell name told place)
  tell-instance-keeps tell t name told place s h =
      held-some P place (λ i u. tell (fired_at u name (told u) (get_or u.form.instance_elements i 0)) u) s h
      (λ i. t (fired_at s name (told s) (get_or s.form.instance_elements i 0)) s h)

  inserted-keeps : (tell : Tell) → Telling P tell → (is_before : Bool) (location : List ℕ) (asked : InsertAsked) (s : State) → P s
      → Held P (inserted p tell is_before location (planned_insert s.forest.nodes asked) s)
  inserted-keeps tell t is_before location asked s h = by (planned_insert s.forest.nodes asked) (k.inserted asked s)
    where
      by : (places : List Place)
          → ((made : List ℕ × State) → copies_of p (map (λ q. q.origin) places) s ≡ Ok made → P s → Held P (in_turn (put_copy p made.0) (zip places made.0) made.1 >>= reindex p made.0))
          → Held P (inserted p tell is_before location places s)
      by [] o = h
      by (place ∷ places) o =
          let origins = map (λ q. q.origin) (place ∷ places) in
          held-on P (copies_of p origins s) _
          (λ made e. held-then P P (in_turn (put_copy p made.0) (zip (place ∷ places) made.0) made.1 >>= reindex p made.0) _ (o made e h)
          (tell-instance-keeps tell t (codes "xforms-insert") (λ u. insert_told u is_before made.0 origins location) (instance_holding s place.parent)))

  insert-at-keeps : (tell : Tell) → Telling P tell → (x : Acting) (w : InsertBy) (c : setting.Focus) → Keeping P (insert_at p tell x w c)
  insert-at-keeps tell t x w c s h =
      held-any P (set_asked p x c s) _ (λ set. held-any P (origin_asked p x c w.origin set s) _ (λ origin. held-any P (place_asked p x w.at origin set s) _
      (λ at. inserted-keeps tell t w.is_before (location_of at c set) (asked_with w s c set origin at) s h)))

  pub insert-keeps : (tell : Tell) → Telling P tell → (x : Acting) (w : InsertBy) → Keeping P (insert p tell x w)
  insert-keeps tell t x w s h = held-any P (moved_focus p x w.context s) _ (λ c. held-some P c (insert_at p tell x w) s h (λ one. insert-at-keeps tell t x w one s h))

  -- ---- delete

  deleted-keeps : (tell : Tell) → Telling P tell → (location : Decimal) (asked : DeleteAsked) (s : State) → AllOf (λ n. IsNoRoot n s.forest) asked.set → P s
      → Held P (delete.deleted p tell location (planned_delete s.forest.nodes asked) s)
  deleted-keeps tell t location asked s are h = by (planned_delete s.forest.nodes asked) (k.deleted asked s are h)
    where
      by : (ns : List ℕ) → Held P (in_turn (λ m u. Ok (detach m u)) ns s) → Held P (delete.deleted p tell location ns s)
      by [] o = h
      by (n ∷ ns) o =
          held-then P P (in_turn (λ m u. Ok (detach m u)) (n ∷ ns) s >>= reindex p []) _
          (held-then P P (in_turn (λ m u. Ok (detach m u)) (n ∷ ns) s) (reindex p []) o reindex-keeps)
          (tell-instance-keeps tell t (codes "xforms-delete") (λ u. delete.delete_told u (n ∷ ns) location) (instance_holding s n))

  delete-at-keeps : (tell : Tell) → Telling P tell → (x : Acting) (w : DeleteBy) (c : setting.Focus) → Keeping P (delete.delete_at p tell x w c)
  delete-at-keeps tell t x w c s h =
      held-on P (set_asked p x c s) _ (λ set e. held-any P (delete.at_asked p x w.at set s) _
      (λ at. deleted-keeps tell t (delete.location_of s.form.decimals set at) (delete.asked_with s set at) s
      (all-bound-kinds p first s (k.base s h) (Some x.told) x.model (binding_of x s) (Some c) set (long-some s (all_bound (surroundings p x s) x.model (binding_of x s) (Some c)) set e)) h))

  pub delete-keeps : (tell : Tell) → Telling P tell → (x : Acting) (w : DeleteBy) → Keeping P (delete.delete p tell x w)
  delete-keeps tell t x w s h =
      held-any P (moved_focus p x w.context s) _ (λ c. held-some P c (delete.delete_at p tell x w) s h (λ one. delete-at-keeps tell t x w one s h))

  -- ---- rows, cases and events

  pub set-index-keeps : (model r n : ℕ) → Keeping P (set_index p model r n)
  set-index-keeps model r n s h = k.index_set model r n s h

  pub act-index-keeps : (x : Acting) (place : ℕ) (m : Meaning) → Keeping P (act_index p x place m)
  act-index-keeps x place m s h =
      let r = get_or (interface s).repeats place 0 in
      held-some P (named_copy s r)
      (λ rows t. whole_for p x t x.focus m >>= λ number. where_some (option_map not_below_zero number) (set_index p x.model r) t) s h
      (λ rows. held-any P (whole_for p x s x.focus m) _
      (λ number. held-some P (option_map not_below_zero number) (set_index p x.model r) s h (λ n. set-index-keeps x.model r n s h)))

  toggled-keeps : (tell : Tell) → Telling P tell → (model switch place one : ℕ) (rows : List ℕ) (s : State) → ((u : State) → P u → P (in_model refresh_due model (set_case switch place u))) → P s
      → Held P (toggled tell model switch place one rows s)
  toggled-keeps tell t model switch place one rows s c h =
      let old = get_or (cases_of (interface s) (get_or (interface s).switches switch 0)) (get_or s.cases switch 0) 0 in
      let after = in_model refresh_due model (set_case switch place s) in
      held-then P P (tell (plainly (codes "xforms-deselect") old rows) after) (tell (plainly (codes "xforms-select") one rows))
      (t (plainly (codes "xforms-deselect") old rows) after (c s h))
      (t (plainly (codes "xforms-select") one rows))

  same-keeps : (b : Bool) (run : Run) (s : State) → P s → Held P (run s) → Held P (unless_same b run s)
  same-keeps true run s h o = h
  same-keeps false run s h o = o

  toggle-in-keeps : (tell : Tell) → Telling P tell → (model one parent : ℕ) (s : State) → IsToggled form one → (element_at (interface s) one).parent ≡ Some parent → P s
      → Held P (toggle_in tell model one parent s)
  toggle-in-keeps tell t model one parent s is above h =
      let q = switch_number (element_at (interface s) parent).sort in
      let place = place_of_case (interface s) parent one in
      let run : Run = λ u. where_some (named_copy u one) (toggled tell model q place one) u in
      let own : (element_at form.interface one).parent ≡ Some parent = subst (λ (x : Program). (element_at x.interface one).parent ≡ Some parent) (k.same s h) above in
      let taken : (u : State) → P u → P (in_model refresh_due model (set_case q place u)) = λ u i.
      subst (λ (x : Program). P (in_model refresh_due model (set_case (switch_number (element_at x.interface parent).sort) (place_of_case x.interface parent one) u))) (sym (k.same s h)) (k.case_set model one parent u is own i) in
      same-keeps (place == get_or s.cases q 0) run s h
      (held-some P (named_copy s one) (toggled tell model q place one) s h (λ rows. toggled-keeps tell t model q place one rows s taken h))

  pub toggle-keeps : (tell : Tell) → Telling P tell → (model one : ℕ) → IsToggled form one → Keeping P (toggle tell model one)
  toggle-keeps tell t model one is s h =
      held-some-is P (element_at (interface s) one).parent (toggle_in tell model one) s h (λ parent above. toggle-in-keeps tell t model one parent s is above h)

  pub act-dispatch-keeps : (tell : Tell) → Telling P tell → (w : DispatchWork) → Keeping P (act_dispatch tell w)
  act-dispatch-keeps tell t w s h =
      held-some P (named_copy s w.target) (λ rows u. tell (fired w.name w.bubbles w.is_cancelable [] w.target rows) u) s h
      (λ rows. t (fired w.name w.bubbles w.is_cancelable [] w.target rows) s h)

  pub act-send-keeps : (tell : Tell) → Telling P tell → (target : Option ℕ) → Keeping P (act_send tell target)
  act-send-keeps tell t target s h =
      held-some P target (λ n u. tell (fired_at u (codes "xforms-submit") [] (submission_element u n)) u) s h
      (λ n. t (fired_at s (codes "xforms-submit") [] (submission_element s n)) s h)

  pub act-model-keeps : (tell : Tell) → Telling P tell → (name : List ℕ) (model : ℕ) → Keeping P (act_on_model tell name model)
  act-model-keeps tell t name model s h = t (fired_at s name [] (model_element s model)) s h

  -- ---- notes

  pub message-keeps : (x : Acting) → Keeping P (message p x)
  message-keeps x s h =
      held-any P (or_long s (inside (interface s) (quiet p s) x.rows x.element)) _
      (λ within. held-any P (or_long s (text_in (interface s) (surroundings p x s) within (element_at (interface s) x.element))) _
      (λ text. note-keeps (Message text) s h))

  pub load-keeps : (x : Acting) (resource : List ℕ) → Keeping P (load p x resource)
  load-keeps x resource s h = held-any P (loaded_text p x resource s (binding_of x s)) _ (λ text. note-keeps (Load text) s h)

  pub focus-keeps : (n : ℕ) → Keeping P (focus p n)
  focus-keeps n s h =
      held-some P (named_copy s n) (λ rows t. add_note p (Focus (element_at (interface t) n).id) t) s h (λ rows. note-keeps (Focus (element_at (interface s) n).id) s h)

  -- ---- a tree in place of another, and a reset

  pub replace-keeps : (n : ℕ) (contents : List (ℕ × Content)) (s : State) → kind_at n s.forest.nodes ≡ Some Element → IsNewElement s.form contents → P s → Held P (replace p n contents s)
  replace-keeps n contents s is f h = k.replaced n contents s is f h

  put-back-keeps : (first_state : Result State Refused) (place : ℕ) (s : State) → ((n : ℕ) → document_at s place ≡ Some n → IsNewElement s.form (first_contents first_state place)) → P s → Held P (put_back p first_state place s)
  put-back-keeps first_state place s f h =
      held-some-is P (document_at s place) (λ n. replace p n (first_contents first_state place)) s h
      (λ n e. replace-keeps n (first_contents first_state place) s (document-kind p first s (k.base s h) place n e) (f n e) h)

  pub reset-keeps : (model : ℕ) → Keeping P (reset p model)
  reset-keeps model s h =
      let built = construct p s.form in
      held-then P P (in_turn (put_back p built) (instances_of s model) s) (reindex p [])
      (held-turn P (put_back p built) (instances_of s model) (λ place u i. put-back-keeps built place u (λ n e. of-form u (k.same u i) place n e i) i) s h) reindex-keeps
    where
      of-form : (u : State) → u.form ≡ form → (place n : ℕ) → document_at u place ≡ Some n → P u → IsNewElement u.form (first_contents (construct p s.form) place)
      of-form u e place n is i =
          let same : u.form ≡ s.form = e ∙ sym (k.same s h) in
          subst (λ (x : Program). IsNewElement u.form (first_contents (construct p x) place)) same (k.built place n u is i)
