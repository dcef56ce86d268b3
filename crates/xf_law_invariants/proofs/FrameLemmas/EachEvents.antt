-- What each change of a state keeps, every change of the machine keeps, where changes are told why they are made: here those of submissions, actions, dispatch and events from outside.
use Rattle.std.proofs.Common.{ℕ, zero, suc, ◌≡◌, Bool, true, false, not, List, [], ◌∷◌, codes, length, nat_le, zip, bytes_eq, slice_get, is_none, Option, Some, None, Result, Ok, Err, refl, sym, ap, ◌∙◌, subst, if◌then◌else◌, ◌&&◌}
use Rattle.std.specs.Str.{is_utf8}
use Rattle.xf_name.specs.declared.lit.Lit.{Lit}
use Rattle.xf_json.specs.declared.fault.JsonFault.{JsonFault}
use Rattle.xf_json.specs.Element.{lit_in}
use Rattle.xf_line.specs.declared.event.Event.{Event}
use Rattle.xf_line.specs.declared.event.Event.TheVariants.{Set, Activate, Index, Send, Dispatch, Reset}
use Rattle.xf_store.specs.declared.answers.Answer.{Answer}
use Rattle.xf_store.specs.declared.answers.Answer.TheVariants.{PutDone, Failed, Found, Absent, TooLong}
use Rattle.xf_store.specs.declared.call.Asked.{Asked}
use Rattle.xf_store.specs.Replay.{fits, answer_at}
use Rattle.xf_def_syntax.specs.declared.form.Replace.{Replace}
use Rattle.xf_def_syntax.specs.declared.form.Replace.TheVariants as instead
use Rattle.xf_def_syntax.specs.declared.form.Submission.{Submission}
use Rattle.xf_def_forest.specs.declared.content.Kind.TheVariants.{Element}
use Rattle.xf_def_forest.specs.declared.fault.TreeFault.{TreeFault}
use Rattle.xf_def_forest.specs.Forest.{kind_at}
use Rattle.xf_def_forest.specs.Needs.{IsSettable}
use Rattle.xf_def_forest.specs.Plant.{contents_of}
use Rattle.xf_def_forest.specs.Planted.{lit_fault}
use Rattle.xf_def_forest.specs.Shape.{has_elements}
use Rattle.xf_law_forests.specs.Root.Roots.{IsNoRoot}
use Rattle.xf_def_xpath.specs.Setting.{Meaning}
use Rattle.xf_def_model.specs.Submitted.{Submitted, left, no_data, invalid, submitted}
use Rattle.xf_def_ui.specs.Calls.{calls}
use Rattle.xf_def_ui.specs.Copies.{Copy}
use Rattle.xf_def_ui.specs.Elements.{element_at, actions_in, repeats_around}
use Rattle.xf_def_ui.specs.Index.{rows_now}
use Rattle.xf_def_ui.specs.Started.{index_set}
use Rattle.xf_def_machine.specs.Profile.{Profile}
use Rattle.xf_def_machine.specs.Program.{Program, Role, Work, Act, role_at}
use Rattle.xf_def_machine.specs.Program as program
use Rattle.xf_def_machine.specs.State.{State}
use Rattle.xf_def_machine.specs.Refusal.{Refusal, Refused, disabled, readonly, not_an_item, bad_index, depth, refused, or_long}
use Rattle.xf_def_machine.specs.Flow.{Run, ◌>>=◌, in_turn}
use Rattle.xf_def_machine.specs.Surround.{interface, all_in, quiet, scope, model_holding}
use Rattle.xf_def_machine.specs.Properties.{readonly_in, relevant_in, valid_in}
use Rattle.xf_def_machine.specs.declared.note.Note.TheVariants as note
use Rattle.xf_def_machine.specs.Primitives.{spend, set_text, add_note}
use Rattle.xf_def_machine.specs.SetValue.{set_node}
use Rattle.xf_def_machine.specs.Behave.{rebuild, recalculate, revalidate}
use Rattle.xf_def_machine.specs.Update.{reindex, due_rebuild, due_recalculation, due_revalidation, update}
use Rattle.xf_def_machine.specs.Events.{Fired, Tell, fired, fired_at, plainly, model_element, submission_element}
use Rattle.xf_def_machine.specs.Acting.{Acting, act_at, act_in, acting, truth_for}
use Rattle.xf_def_machine.specs.Construct.{replace, reset}
use Rattle.xf_def_machine.specs.Submit.{Ended, done, failed, Sending, then_done, behave_all, put_tree, put_text, takes_tree, takes_text, target_by, on_target, has_fault, with_tree, with_text, respond, answered}
use Rattle.xf_def_machine.specs.Exchange.{done_told, failed_told, with_call, unless_many, exchange, asked_by, is_store_name, selected, attempt, told_end, submit_by, submit}
use Rattle.xf_def_machine.specs.Choose.{named_copy, set_index, act_send}
use Rattle.xf_def_machine.specs.Act.{if_true, while_true, repeated, done_by, begun, act_within, act}
use Rattle.xf_def_machine.specs.Default.{nothing, recalculate_now, revalidate_now, refresh_now, of_model, of_role, default}
use Rattle.xf_def_machine.specs.Dispatch.{Further, handle, after_all, handled, dispatch}
use Rattle.xf_def_machine.specs.Targets.{element_named, is_entry, is_trigger, is_submission, by_role, is_repeat_in, or_no_target, copy_named, unless, model_around, take_rows}
use Rattle.xf_def_machine.specs.Targets as targets
use Rattle.xf_def_machine.specs.Step.{settle, tell, set_bound, try_set, set, activate, is_row, index, to_element, model_named, changed_by}
use Rattle.xf_def_machine.specs.Cycles.{counted_from}
use Rattle.xf_def_machine.specs.Start.{tell_model, tell_models}
use Rattle.xf_law_machine.specs.Behaviours.Chain.{NoRebuild, NoneBefore}
use Rattle.xf_law_machine.proofs.RestLemmas.Holds.{Held, held-then, held-any, held-both, held-if, held-when, held-some, held-turn}
use Rattle.xf_law_machine.proofs.RestLemmas.FlagLaws.{CalmAt, rebuilt-none, recalculated-none, due-rebuilt, due-recalculated, due-revalidated, none-calm}
use Rattle.xf_law_invariants.specs.Whole.Cases.{IsToggled}
use Rattle.xf_law_invariants.proofs.WholeLemmas.Fitting.{held-some-is, held-if-is}
use Rattle.xf_law_invariants.specs.Frame.Base.{AreBound, IsNewElement}
use Rattle.xf_law_invariants.proofs.FrameLemmas.Bound.{held-on, settable-by, takes-kind, target-kind, copy-bound}
use Rattle.xf_law_invariants.specs.Frame.Each.{KeepsEach}
use Rattle.xf_law_invariants.proofs.FrameLemmas.EachKeeps.{Keeping, Telling, spend-keeps, note-keeps, due-rebuild-keeps, due-recalculation-keeps, due-revalidation-keeps, reindex-keeps, clear-keeps, update-keeps, set-node-keeps, set-value-keeps, insert-keeps, delete-keeps, set-index-keeps, act-index-keeps, toggle-keeps, act-dispatch-keeps, act-send-keeps, act-model-keeps, message-keeps, load-keeps, focus-keeps, replace-keeps, reset-keeps}

abbrev Ends : (State → Type 0) → Ended → Type 0
Ends P (done s) = P s
Ends P (failed error s) = P s

module _ (p : Profile) (answers : List Answer) (form : Program) (first : ℕ) (P : State → Type 0) (k : KeepsEach p form first P) where
  -- ---- submissions

  behave-keeps : (tell : Tell) → Telling P tell → (model : ℕ) → Keeping P (behave_all p tell model)
  behave-keeps tell t model s h =
      held-then (λ u. P u × NoneBefore model u) P (rebuild p model s >>= recalculate p model) _
      (held-then (λ u. P u × NoRebuild model u) (λ u. P u × NoneBefore model u) (rebuild p model s) (recalculate p model)
      (held-both P (NoRebuild model) (rebuild p model s) (k.rebuild model s h) (rebuilt-none p model s))
      (λ u i. held-both P (NoneBefore model) (recalculate p model u) (k.recalculate model u i.1 i.0) (recalculated-none p model u i.1)))
      (λ u i. clear-keeps p form first P k tell t model (revalidate p model u) (none-calm p model u i.1) (k.revalidate model u i.1 i.0))

  put-tree-keeps : (tell : Tell) → Telling P tell → (lit : Lit) (n : ℕ) (s : State) → kind_at n s.forest.nodes ≡ Some Element → IsNewElement s.form (contents_of s.form.bindings lit 0 0) → P s
      → Held P (put_tree p tell lit n s)
  put-tree-keeps tell t lit n s is f h =
      held-then P P (replace p n (contents_of s.form.bindings lit 0 0) s >>= reindex p []) _
      (held-then P P (replace p n (contents_of s.form.bindings lit 0 0) s) (reindex p [])
      (replace-keeps p form first P k n (contents_of s.form.bindings lit 0 0) s is f h) (reindex-keeps p form first P k))
      (λ u i. held-some P (model_holding s n) (behave_all p tell) u i (λ model. behave-keeps tell t model u i))

  put-text-keeps : (tell : Tell) → Telling P tell → (text : List ℕ) (n : ℕ) (s : State) → IsSettable n s.forest → P s → Held P (put_text p tell text n s)
  put-text-keeps tell t text n s e h =
      held-then P P (set_text p n text s) _ (k.text n text s e h) (λ u i. held-some P (model_holding s n) (behave_all p tell) u i (λ model. behave-keeps tell t model u i))

  done-keeps : (r : Result State Refused) → Held P r → Held (Ends P) (then_done r)
  done-keeps (Err refusal) h = tt
  done-keeps (Ok s) h = h

  target-keeps : (takes : State → ℕ → Bool) (put : ℕ → Run) (target : Option ℕ) (s : State) → ((n : ℕ) → target ≡ Some n → takes s n ≡ true → Held P (put n s)) → P s
      → Held (Ends P) (on_target takes put target s)
  target-keeps takes put None s o h = h
  target-keeps takes put (Some n) s o h =
      held-if-is (Ends P) (takes s n) (then_done (put n s)) (Ok (failed (codes "target-error") s)) (λ e. done-keeps (put n s) (o n refl e)) h

  childless : (a b : Bool) → (not a && b) ≡ true → a ≡ false
  childless true b e = cc e
  childless false b e = refl

  no-fault : (o : Option TreeFault) → not (is_none o) ≡ false → o ≡ None
  no-fault None e = refl
  no-fault (Some fault) e = cc e

  tree-keeps : (tell : Tell) → Telling P tell → (sub : Submission) (n : ℕ) (s : State) (bytes : List ℕ) (r : Result Lit JsonFault) → lit_in bytes ≡ r → P s → Held (Ends P) (with_tree p tell sub n s r)
  tree-keeps tell t sub n s bytes (Err fault) e h = h
  tree-keeps tell t sub n s bytes (Ok lit) e h = by (has_fault s lit) refl
    where
      put : Option ℕ → Sending
      put target = on_target takes_tree (put_tree p tell lit) target s

      by : (b : Bool) → has_fault s lit ≡ b → Held (Ends P) (if b then Ok (failed (codes "parse-error") s) else target_by p sub n s sub.target sub.instance >>= put)
      by true q = h
      by false q =
          let new = k.response bytes lit s e (no-fault (lit_fault s.form.bindings lit) q) h in
          held-any (Ends P) (target_by p sub n s sub.target sub.instance) put
          (λ target. target-keeps takes_tree (put_tree p tell lit) target s
          (λ m at takes. put-tree-keeps tell t lit m s (takes-kind p first s (k.base s h) m takes) new h) h)

  text-keeps : (tell : Tell) → Telling P tell → (sub : Submission) (n : ℕ) (s : State) (bytes : List ℕ) → P s → Held (Ends P) (with_text p tell sub n s bytes)
  text-keeps tell t sub n s bytes h =
      let put : Option ℕ → Sending = λ target. on_target takes_text (put_text p tell bytes) target s in
      held-if (Ends P) (is_utf8 bytes) (target_by p sub n s sub.target sub.instance >>= put) (Ok (failed (codes "parse-error") s))
      (held-on (Ends P) (target_by p sub n s sub.target sub.instance) put
      (λ target q. target-keeps takes_text (put_text p tell bytes) target s
      (λ m at takes. put-text-keeps tell t bytes m s
      (settable-by m s.forest (target-kind p first s (k.base s h) sub n m (q ∙ ap Ok at)) (childless (has_elements (all_in s) m) (not (readonly_in s m)) takes)) h) h)) h

  respond-keeps : (tell : Tell) → Telling P tell → (sub : Submission) (n : ℕ) (s : State) (bytes : List ℕ) (how : Replace) → P s
      → Held (Ends P) (respond p tell sub n s bytes how)
  respond-keeps tell t sub n s bytes instead.All h = done-keeps (add_note p (note.All sub.resource (length bytes)) s) (note-keeps p form first P k (note.All sub.resource (length bytes)) s h)
  respond-keeps tell t sub n s bytes instead.Nothing h = h
  respond-keeps tell t sub n s [] instead.Instance h = h
  respond-keeps tell t sub n s [] instead.Text h = h
  respond-keeps tell t sub n s (b ∷ bs) instead.Instance h = tree-keeps tell t sub n s (b ∷ bs) (lit_in (b ∷ bs)) refl h
  respond-keeps tell t sub n s (b ∷ bs) instead.Text h = text-keeps tell t sub n s (b ∷ bs) h

  answered-keeps : (tell : Tell) → Telling P tell → (sub : Submission) (n : ℕ) (s : State) (answer : Answer) → P s
      → Held (Ends P) (answered p tell sub n s answer)
  answered-keeps tell t sub n s PutDone h = respond-keeps tell t sub n s [] sub.replace h
  answered-keeps tell t sub n s (Found bytes) h = respond-keeps tell t sub n s bytes sub.replace h
  answered-keeps tell t sub n s Failed h = h
  answered-keeps tell t sub n s Absent h = h
  answered-keeps tell t sub n s TooLong h = h

  many-keeps : (b : Bool) (s : State) → P s → Held P (unless_many b s)
  many-keeps true s h = tt
  many-keeps false s h = h

  exchange-keeps : (tell : Tell) → Telling P tell → (sub : Submission) (n : ℕ) (asked : Asked) (s : State) → P s → Held (Ends P) (exchange p answers tell sub n asked s)
  exchange-keeps tell t sub n asked s h =
      held-then P (Ends P) (unless_many (nat_le p.sends (length s.calls)) s) _ (many-keeps (nat_le p.sends (length s.calls)) s h)
      (λ u i. let answer = answer_at (fits asked) answers (length u.calls) in
      answered-keeps tell t sub n (with_call sub.resource asked answer u) answer (k.calls sub.resource asked answer u i))

  selected-keeps : (tell : Tell) → Telling P tell → (sub : Submission) (s : State) (found : Submitted) → P s → Held (Ends P) (selected p answers tell sub s found)
  selected-keeps tell t sub s no_data h = h
  selected-keeps tell t sub s (invalid n) h = h
  selected-keeps tell t sub s (left n kept) h =
      held-if (Ends P) (is_store_name sub.resource) (exchange p answers tell sub n (asked_by sub n kept s sub.method) s) (Ok (failed (codes "resource-error") s)) (exchange-keeps tell t sub n (asked_by sub n kept s sub.method) s h) h

  attempt-keeps : (tell : Tell) → Telling P tell → (sub : Submission) (s : State) → P s → Held (Ends P) (attempt p answers tell sub s)
  attempt-keeps tell t sub s h =
      held-any (Ends P) (or_long s (submitted (Some p.bounds.string) (scope p s sub.model) (relevant_in s) (valid_in s) s.forest.nodes sub)) (selected p answers tell sub s) (λ found. selected-keeps tell t sub s found h)

  end-keeps : (tell : Tell) → Telling P tell → (place : ℕ) (sub : Submission) (ended : Ended) → Ends P ended → Held P (told_end tell place sub ended)
  end-keeps tell t place sub (done s) h = t (fired_at s (codes "xforms-submit-done") (done_told sub) (submission_element s place)) s h
  end-keeps tell t place sub (failed error s) h = t (fired_at s (codes "xforms-submit-error") (failed_told sub error) (submission_element s place)) s h

  submit-by-keeps : (tell : Tell) → Telling P tell → (place : ℕ) (sub : Submission) → Keeping P (submit_by p answers tell place sub)
  submit-by-keeps tell t place sub s h =
      held-then (Ends P) P (due_revalidation p sub.model s >>= attempt p answers tell sub) (told_end tell place sub)
      (held-then P (Ends P) (due_revalidation p sub.model s) (attempt p answers tell sub) (due-revalidation-keeps p form first P k sub.model s h) (attempt-keeps tell t sub))
      (end-keeps tell t place sub)

  submit-keeps : (tell : Tell) → Telling P tell → (place : ℕ) → Keeping P (submit p answers tell place)
  submit-keeps tell t place s h = held-some P (slice_get s.form.submissions place) (submit_by p answers tell place) s h (λ sub. submit-by-keeps tell t place sub s h)

  -- ---- actions

  if-keeps : (x : Acting) (o : Option Meaning) (once : Run) → Keeping P once → Keeping P (if_true p x o once)
  if-keeps x None once c s h = c s h
  if-keeps x (Some condition) once c s h = held-any P (truth_for p x s condition) _ (λ b. held-when P b once s h (c s h))

  while-keeps : (turns : ℕ) (x : Acting) (test : Meaning) (once : Run) → Keeping P once → Keeping P (while_true turns p x test once)
  while-keeps zero x test once c s h = tt
  while-keeps (suc turns) x test once c s h =
      held-then P P (spend s) _ (spend-keeps p form first P k s h)
      (λ u i. held-any P (truth_for p x u test) _
      (λ b. held-when P b (λ v. once v >>= while_true turns p x test once) u i (held-then P P (once u) _ (c u i) (while-keeps turns x test once c))))

  repeated-keeps : (x : Acting) (o : Option Meaning) (once : Run) → Keeping P once → Keeping P (repeated p x o once)
  repeated-keeps x None once c s h = c s h
  repeated-keeps x (Some test) once c s h = while-keeps (suc s.turns) x test once c s h

  work-keeps : (tell : Tell) → Telling P tell → (inner : ℕ → Run) → ((n : ℕ) → Keeping P (inner n)) → (x : Acting) (work : Work) → ((one : ℕ) → work ≡ program.toggle one → IsToggled form one)
      → Keeping P (done_by p tell inner x work)
  work-keeps tell t inner c x program.all_in_it from s h = held-turn P inner (actions_in (interface s) x.element) c s h
  work-keeps tell t inner c x (program.set_value value) from s h = set-value-keeps p form first P k x value s h
  work-keeps tell t inner c x (program.insert w) from s h = insert-keeps p form first P k tell t x w s h
  work-keeps tell t inner c x (program.delete w) from s h = delete-keeps p form first P k tell t x w s h
  work-keeps tell t inner c x (program.set_index place m) from s h = act-index-keeps p form first P k x place m s h
  work-keeps tell t inner c x (program.toggle one) from s h = toggle-keeps p form first P k tell t x.model one (from one refl) s h
  work-keeps tell t inner c x (program.set_focus n) from s h = focus-keeps p form first P k n s h
  work-keeps tell t inner c x (program.dispatch w) from s h = act-dispatch-keeps p form first P k tell t w s h
  work-keeps tell t inner c x (program.send target) from s h = act-send-keeps p form first P k tell t target s h
  work-keeps tell t inner c x (program.load resource) from s h = load-keeps p form first P k x resource s h
  work-keeps tell t inner c x program.message from s h = message-keeps p form first P k x s h
  work-keeps tell t inner c x (program.on_model name) from s h = act-model-keeps p form first P k tell t name x.model s h

  begun-keeps : (tell : Tell) → Telling P tell → (e : Fired) (inner : ℕ → Run) → ((n : ℕ) → Keeping P (inner n)) → (n : ℕ) (a : Act) → ((one : ℕ) → a.work ≡ program.toggle one → IsToggled form one)
      → Keeping P (begun p tell e inner n a)
  begun-keeps tell t e inner c n a from s h =
      held-any P (acting p e n s) _
      (λ one. held-some P one (λ x. repeated p x a.repetition (if_true p x a.condition (done_by p tell inner x a.work))) s h
      (λ x. repeated-keeps x a.repetition (if_true p x a.condition (done_by p tell inner x a.work)) (if-keeps x a.condition (done_by p tell inner x a.work) (work-keeps tell t inner c x a.work from)) s h))

  act-within-keeps : (most : ℕ) (tell : Tell) → Telling P tell → (e : Fired) (n : ℕ) → Keeping P (act_within most p tell e n)
  act-within-keeps zero tell t e n s h = h
  act-within-keeps (suc most) tell t e n s h =
      held-some-is P (act_at s n) (begun p tell e (act_within most p tell e) n) s h
      (λ a is. begun-keeps tell t e (act_within most p tell e) (act-within-keeps most tell t e) n a
      (λ one q. record { element = n; act = a; is = subst (λ (x : Program). act_in (role_at x n) ≡ Some a) (k.same s h) is; toggles = q }) s h)

  act-keeps : (tell : Tell) → Telling P tell → (e : Fired) (n : ℕ) → Keeping P (act p tell e n)
  act-keeps tell t e n s h = act-within-keeps (length s.form.roles) tell t e n s h

  -- ---- default actions

  choose-keeps : (b : Bool) (one other : Run) → Keeping P one → Keeping P other → Keeping P (if b then one else other)
  choose-keeps true one other c d = c
  choose-keeps false one other c d = d

  recalculate-now-keeps : (model : ℕ) → Keeping P (recalculate_now p model)
  recalculate-now-keeps model s h =
      held-then (λ u. P u × NoRebuild model u) P (due_rebuild p model s) (recalculate p model)
      (held-both P (NoRebuild model) (due_rebuild p model s) (due-rebuild-keeps p form first P k model s h) (due-rebuilt p model s))
      (λ u i. k.recalculate model u i.1 i.0)

  revalidate-now-keeps : (model : ℕ) → Keeping P (revalidate_now p model)
  revalidate-now-keeps model s h =
      held-then (λ u. P u × NoneBefore model u) P (due_recalculation p model s) _
      (held-both P (NoneBefore model) (due_recalculation p model s) (due-recalculation-keeps p form first P k model s h) (due-recalculated p model s))
      (λ u i. k.revalidate model u i.1 i.0)

  refresh-now-keeps : (tell : Tell) → Telling P tell → (model : ℕ) → Keeping P (refresh_now p tell model)
  refresh-now-keeps tell t model s h =
      held-then (λ u. P u × CalmAt model u) P (due_revalidation p model s) _
      (held-both P (CalmAt model) (due_revalidation p model s) (due-revalidation-keeps p form first P k model s h) (due-revalidated p model s))
      (λ u i. clear-keeps p form first P k tell t model u i.1 i.0)

  of-model-keeps : (tell : Tell) → Telling P tell → (model : ℕ) (name : List ℕ) → Keeping P (of_model p tell model name)
  of-model-keeps tell t model name =
      let reset_or = λ (run : Run). if bytes_eq name (codes "xforms-reset") then reset p model else run in
      let refresh_or = λ (run : Run). if bytes_eq name (codes "xforms-refresh") then refresh_now p tell model else run in
      let revalidate_or = λ (run : Run). if bytes_eq name (codes "xforms-revalidate") then revalidate_now p model else run in
      let recalculate_or = λ (run : Run). if bytes_eq name (codes "xforms-recalculate") then recalculate_now p model else run in
      choose-keeps (bytes_eq name (codes "xforms-rebuild")) (rebuild p model) (recalculate_or (revalidate_or (refresh_or (reset_or nothing)))) (k.rebuild model)
      (choose-keeps (bytes_eq name (codes "xforms-recalculate")) (recalculate_now p model) (revalidate_or (refresh_or (reset_or nothing))) (recalculate-now-keeps model)
      (choose-keeps (bytes_eq name (codes "xforms-revalidate")) (revalidate_now p model) (refresh_or (reset_or nothing)) (revalidate-now-keeps model)
      (choose-keeps (bytes_eq name (codes "xforms-refresh")) (refresh_now p tell model) (reset_or nothing) (refresh-now-keeps tell t model)
      (choose-keeps (bytes_eq name (codes "xforms-reset")) (reset p model) nothing (reset-keeps p form first P k model) (λ s h. h)))))

  role-keeps : (tell : Tell) → Telling P tell → (name : List ℕ) (role : Role) → Keeping P (of_role p answers tell name role)
  role-keeps tell t name (program.model place) s h = of-model-keeps tell t place name s h
  role-keeps tell t name (program.submission place) s h = held-when P (bytes_eq name (codes "xforms-submit")) (submit p answers tell place) s h (submit-keeps tell t place s h)
  role-keeps tell t name (program.submit target) s h = held-when P (bytes_eq name (codes "DOMActivate")) (act_send tell target) s h (act-send-keeps p form first P k tell t target s h)
  role-keeps tell t name (program.action a) s h = h
  role-keeps tell t name program.entry s h = h
  role-keeps tell t name program.trigger s h = h
  role-keeps tell t name program.other s h = h

  default-keeps : (tell : Tell) → Telling P tell → (e : Fired) → Keeping P (default p answers tell e)
  default-keeps tell t e s h = role-keeps tell t e.event.name (role_at s.form e.event.target) s h

  -- ---- dispatch

  handle-keeps : (further : Further) → ((b : Bool) → Telling P (further b)) → (is_idle : Bool) (e : Fired) (n : ℕ) → Keeping P (handle p further is_idle e n)
  handle-keeps further t is_idle e n s h =
      held-then P P (act p (further false) e n s) _ (act-keeps (further false) (t false) e n s h)
      (λ u i. held-when P is_idle (update p (further false)) u i (update-keeps p form first P k (further false) (t false) u i))

  after-keeps : (further : Further) → ((b : Bool) → Telling P (further b)) → (is_idle : Bool) (e : Fired) → Keeping P (after_all p answers further is_idle e)
  after-keeps further t is_idle e s h =
      held-then P P (default p answers (further is_idle) e s) _ (default-keeps (further is_idle) (t is_idle) e s h)
      (λ u i. held-when P is_idle (update p (further false)) u i (update-keeps p form first P k (further false) (t false) u i))

  handled-keeps : (further : Further) → ((b : Bool) → Telling P (further b)) → (is_idle : Bool) (e : Fired) → Keeping P (handled p answers further is_idle e)
  handled-keeps further t is_idle e s h =
      let called = calls (interface s) e.event in
      held-then P P (in_turn (handle p further is_idle e) called.handlers s) _ (held-turn P (handle p further is_idle e) called.handlers (handle-keeps further t is_idle e) s h)
      (λ u i. held-when P called.with_default (after_all p answers further is_idle e) u i (after-keeps further t is_idle e u i))

  pub dispatch-keeps : (most : ℕ) (is_idle : Bool) → Telling P (dispatch p answers most is_idle)
  dispatch-keeps zero is_idle e s h = held-then P P (spend s) (refused depth) (spend-keeps p form first P k s h) (λ u i. tt)
  dispatch-keeps (suc most) is_idle e s h =
      held-then P P (spend s) (handled p answers (dispatch p answers most) is_idle e) (spend-keeps p form first P k s h) (handled-keeps (dispatch p answers most) (dispatch-keeps most) is_idle e)

  -- ---- events from outside

  settle-keeps : Keeping P (settle p answers)
  settle-keeps s h = update-keeps p form first P k (dispatch p answers p.depth false) (dispatch-keeps p.depth false) s h

  pub tell-keeps : (e : Fired) → Keeping P (tell p answers e)
  tell-keeps e s h = dispatch-keeps p.depth true e s h

  pub models-keep : (name : List ℕ) → Keeping P (tell_models p answers name)
  models-keep name s h = held-turn P (tell_model p answers name) (counted_from 0 (length s.models)) (λ model t i. tell-keeps (fired_at t name [] (model_element t model)) t i) s h

  unless-keeps : (b : Bool) (why : Refusal) → Keeping P (unless b why)
  unless-keeps true why s h = tt
  unless-keeps false why s h = h

  bound-keeps : (text : List ℕ) (o : Option ℕ) (s : State) → ((n : ℕ) → o ≡ Some n → IsNoRoot n s.forest) → P s → Held P (set_bound p text o s)
  bound-keeps text o s is h = held-some-is P o (λ n. set_node p n text) s h (λ n e. set-node-keeps p form first P k n text s (is n e) h)

  try-keeps : (n : ℕ) (c : Copy) (text : List ℕ) → Keeping P (try_set n c text)
  try-keeps n c text s h =
      held-then P P (unless (not c.enabled) disabled s >>= unless (not c.readwrite) readonly) _
      (held-then P P (unless (not c.enabled) disabled s) (unless (not c.readwrite) readonly) (unless-keeps (not c.enabled) disabled s h) (unless-keeps (not c.readwrite) readonly))
      (unless-keeps (not (targets.takes_text (element_at (interface s) n).sort c text)) not_an_item)

  rows-keep : (n : ℕ) (rows : List ℕ) → Keeping P (take_rows p n rows)
  rows-keep n rows s h =
      held-turn P (λ q t. set_index p (model_around (interface t) q.0) q.0 q.1 t) (zip (repeats_around (interface s) n) rows)
      (λ q t i. set-index-keeps p form first P k (model_around (interface t) q.0) q.0 q.1 t i) s h

  -- the data stay as they are
  abbrev SameData : State → State → Type 0
  SameData s t = t.forest ≡ s.forest

  index-data : (s : State) (model r n : ℕ) (t : State) → SameData s t → Held (SameData s) (set_index p model r n t)
  index-data s model r n t e = held-any (SameData s) (or_long t (index_set (interface t) (quiet p t) r n t.indexes)) _ (λ indexes. e)

  rows-data : (n : ℕ) (rows : List ℕ) (s : State) → Held (SameData s) (take_rows p n rows s)
  rows-data n rows s =
      held-turn (SameData s) (λ q t. set_index p (model_around (interface t) q.0) q.0 q.1 t) (zip (repeats_around (interface s) n) rows)
      (λ q t e. index-data s (model_around (interface t) q.0) q.0 q.1 t e) s refl

  unless-same : (b : Bool) (why : Refusal) (s t : State) → SameData s t → t ≡ s → Held (λ u. u ≡ s) (unless b why t)
  unless-same true why s t d e = tt
  unless-same false why s t d e = e

  tried-same : (n : ℕ) (c : Copy) (text : List ℕ) (s : State) → Held (λ u. u ≡ s) (try_set n c text s)
  tried-same n c text s =
      held-then (λ u. u ≡ s) (λ u. u ≡ s) (unless (not c.enabled) disabled s >>= unless (not c.readwrite) readonly) _
      (held-then (λ u. u ≡ s) (λ u. u ≡ s) (unless (not c.enabled) disabled s) (unless (not c.readwrite) readonly) (unless-same (not c.enabled) disabled s s refl refl)
      (λ u e. unless-same (not c.readwrite) readonly s u (ap (λ (v : State). v.forest) e) e))
      (λ u e. unless-same (not (targets.takes_text (element_at (interface s) n).sort c text)) not_an_item s u (ap (λ (v : State). v.forest) e) e)

  set-keeps : (n : ℕ) (rows text : List ℕ) (s : State) → AreBound s → P s → Held P (set p answers n rows text s)
  set-keeps n rows text s are h =
      held-on P (copy_named p s n rows) _
      (λ c e. held-then P P (try_set n c text s >>= take_rows p n rows >>= set_bound p text c.node) (settle p answers)
      (held-then (λ u. P u × SameData s u) P (try_set n c text s >>= take_rows p n rows) (set_bound p text c.node)
      (held-then (λ u. P u × (u ≡ s)) (λ u. P u × SameData s u) (try_set n c text s) (take_rows p n rows)
      (held-both P (λ u. u ≡ s) (try_set n c text s) (try-keeps n c text s h) (tried-same n c text s))
      (λ u i. held-both P (SameData s) (take_rows p n rows u) (rows-keep n rows u i.0) (subst (λ v. Held (SameData s) (take_rows p n rows v)) (sym i.1) (rows-data n rows s))))
      (λ u i. bound-keeps text c.node u (λ m q. subst (IsNoRoot m) (sym i.1) (copy-bound p s n rows c are e m q)) i.0)) settle-keeps)

  activate-keeps : (n : ℕ) (rows : List ℕ) → Keeping P (activate p answers n rows)
  activate-keeps n rows s h =
      held-any P (copy_named p s n rows) _
      (λ c. held-then P P (unless (not c.enabled) disabled s >>= take_rows p n rows >>= settle p answers) _
      (held-then P P (unless (not c.enabled) disabled s >>= take_rows p n rows) (settle p answers)
      (held-then P P (unless (not c.enabled) disabled s) (take_rows p n rows) (unless-keeps (not c.enabled) disabled s h) (rows-keep n rows)) settle-keeps) (tell-keeps (plainly (codes "DOMActivate") n c.rows)))

  index-keeps : (r n : ℕ) → Keeping P (index p answers r n)
  index-keeps r n s h =
      held-any P (or_long s (rows_now (interface s) (quiet p s) s.indexes r)) _
      (λ rows. let bad = not (is_row rows n) in
      held-then P P (unless bad bad_index s >>= set_index p (model_around (interface s) r) r n) (settle p answers)
      (held-then P P (unless bad bad_index s) (set_index p (model_around (interface s) r) r n) (unless-keeps bad bad_index s h)
      (set-index-keeps p form first P k (model_around (interface s) r) r n)) settle-keeps)

  element-keeps : (name : List ℕ) (n : ℕ) → Keeping P (to_element p answers name n)
  element-keeps name n s h =
      held-some P (named_copy s n) (λ rows t. tell p answers (fired name true true [] n rows) t) s h (λ rows. tell-keeps (fired name true true [] n rows) s h)

  pub changed-keeps : (event : Event) (s : State) → AreBound s → P s → Held P (changed_by p answers event s)
  changed-keeps (Set id rows text) s are h = held-any P (or_no_target s (element_named s (by_role s is_entry) id)) _ (λ n. set-keeps n rows text s are h)
  changed-keeps (Activate id rows) s are h = held-any P (or_no_target s (element_named s (by_role s is_trigger) id)) _ (λ n. activate-keeps n rows s h)
  changed-keeps (Index id n) s are h = held-any P (or_no_target s (element_named s (is_repeat_in s) id)) _ (λ r. index-keeps r n s h)
  changed-keeps (Send id) s are h =
      held-any P (or_no_target s (element_named s (by_role s is_submission) id)) _ (λ n. element-keeps (codes "xforms-submit") n s h)
  changed-keeps (Dispatch name id) s are h = held-any P (or_no_target s (element_named s (λ n. true) id)) _ (λ n. element-keeps name n s h)
  changed-keeps (Reset id) s are h = held-any P (or_no_target s (model_named s id)) _ (λ n. element-keeps (codes "xforms-reset") n s h)
