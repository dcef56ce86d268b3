-- Actions, default actions and dispatch over a state and the same one with other numbers.
use Rattle.std.proofs.Common.{ℕ, zero, suc, Bool, true, false, List, length, codes, bytes_eq, Option, Some, None, option_map, Ok, refl, if◌then◌else◌}
use Rattle.xf_def_xpath.specs.Setting.{Meaning}
use Rattle.xf_def_ui.specs.Calls.{calls}
use Rattle.xf_def_ui.specs.Elements.{actions_in}
use Rattle.xf_def_machine.specs.Program.{Role, Work, Act, role_at}
use Rattle.xf_def_machine.specs.Program as program
use Rattle.xf_def_machine.specs.State.{State}
use Rattle.xf_def_machine.specs.Refusal.{depth, refused}
use Rattle.xf_def_machine.specs.Flow.{Run, ◌>>=◌, when, where_some, in_turn}
use Rattle.xf_def_machine.specs.Surround.{interface}
use Rattle.xf_def_machine.specs.Primitives.{spend}
use Rattle.xf_def_machine.specs.Behave.{rebuild, recalculate, revalidate}
use Rattle.xf_def_machine.specs.Update.{due_rebuild, due_recalculation, due_revalidation, refresh, refresh_cleared, update}
use Rattle.xf_def_machine.specs.Events.{Fired, Tell}
use Rattle.xf_def_machine.specs.Acting.{Acting, act_in, acting, truth_for}
use Rattle.xf_def_machine.specs.Construct.{reset}
use Rattle.xf_def_machine.specs.Choose.{act_send}
use Rattle.xf_def_machine.specs.Exchange.{submit}
use Rattle.xf_def_machine.specs.Act.{if_true, while_true, repeated, done_by, begun, act_within, act}
use Rattle.xf_def_machine.specs.Default.{nothing, recalculate_now, revalidate_now, refresh_now, of_model, of_role, default}
use Rattle.xf_def_machine.specs.Dispatch.{Further, handle, after_all, handled, dispatch}
use Rattle.xf_law_sessions.proofs.SameLemmas.LabelsGo.{MeaningGoes}
use Rattle.xf_law_sessions.proofs.StepLemmas.Alike.{Two, other, Fits, Alike, Goes, then-alike, eval-alike, kept-alike, when-alike, some-alike, kept-turn}
use Rattle.xf_law_sessions.proofs.StepLemmas.ChangesAlike.{renumbered_fired, Tells, one-clears, spend-alike, rebuild-alike, recalculate-alike, revalidate-alike, due-rebuild-alike, due-recalculation-alike, due-revalidation-alike, refresh-alike, update-alike}
use Rattle.xf_law_sessions.proofs.StepLemmas.EvalAlike.{ActGoes, WorkGoes, RoleGoes, roles-go, renumbered_acting, acting-goes, truth-goes}
use Rattle.xf_law_sessions.proofs.StepLemmas.ActionsAlike.{set-value-alike}
use Rattle.xf_law_sessions.proofs.StepLemmas.MovesAlike.{insert-alike}
use Rattle.xf_law_sessions.proofs.StepLemmas.ChoicesAlike.{delete-alike, act-index-alike, toggle-alike, act-dispatch-alike, act-send-alike, act-model-alike, message-alike, load-alike, focus-alike, reset-alike}
use Rattle.xf_law_sessions.proofs.StepLemmas.SubmitAlike.{submit-alike}

module _ (e : Two) where
  -- ---- actions

  if-goes : (x : Acting) (o : Option Meaning) → MeaningGoes e.f o → (once once_too : Run) → Goes e once once_too → Goes e (if_true e.p x o once) (if_true e.p (renumbered_acting e x) o once_too)
  if-goes x None r once once_too c s h = c s h
  if-goes x (Some condition) r once once_too c s h =
      kept-alike e (truth_for e.p x s condition) (truth_for e.p (renumbered_acting e x) (other e s) condition) (λ b. when b once s) (λ b. when b once_too (other e s)) (truth-goes e x s h condition r)
      (λ b. when-alike e b b once once_too s refl h (c s h))

  while-goes : (turns : ℕ) (x : Acting) (test : Meaning) → MeaningGoes e.f (Some test) → (once once_too : Run) → Goes e once once_too
      → Goes e (while_true turns e.p x test once) (while_true turns e.p (renumbered_acting e x) test once_too)
  while-goes zero x test r once once_too c s h = record { is = refl; fits = tt }
  while-goes (suc turns) x test r once once_too c s h =
      let y = renumbered_acting e x in
      let more : Acting → Run → Run = λ z run v. run v >>= while_true turns e.p z test run in
      let last : Acting → Run → Run = λ z run u. truth_for e.p z u test >>= λ b. when b (more z run) u in
      then-alike e (spend s) (spend (other e s)) (last x once) (last y once_too) (spend-alike e s h)
      (λ u k. kept-alike e (truth_for e.p x u test) (truth_for e.p y (other e u) test) (λ b. when b (more x once) u) (λ b. when b (more y once_too) (other e u)) (truth-goes e x u k test r)
      (λ b. when-alike e b b (more x once) (more y once_too) u refl k
      (then-alike e (once u) (once_too (other e u)) (while_true turns e.p x test once) (while_true turns e.p y test once_too) (c u k) (while-goes turns x test r once once_too c))))

  repeated-goes : (x : Acting) (o : Option Meaning) → MeaningGoes e.f o → (once once_too : Run) → Goes e once once_too → Goes e (repeated e.p x o once) (repeated e.p (renumbered_acting e x) o once_too)
  repeated-goes x None r once once_too c s h = c s h
  repeated-goes x (Some test) r once once_too c s h = while-goes (suc s.turns) x test r once once_too c s h

  work-goes : (tell : Tell) → Tells e tell → (inner inner_too : ℕ → Run) → ((n : ℕ) → Goes e (inner n) (inner_too n)) → (x : Acting) (w : Work) → WorkGoes e.f w
      → Goes e (done_by e.p tell inner x w) (done_by e.p tell inner_too (renumbered_acting e x) w)
  work-goes tell t inner inner_too c x program.all_in_it r s h = kept-turn e inner inner_too (actions_in (interface s) x.element) c s h
  work-goes tell t inner inner_too c x (program.set_value value) r s h = set-value-alike e x value r s h
  work-goes tell t inner inner_too c x (program.insert w) r s h = insert-alike e tell t x w r s h
  work-goes tell t inner inner_too c x (program.delete w) r s h = delete-alike e tell t x w r s h
  work-goes tell t inner inner_too c x (program.set_index place m) r s h = act-index-alike e x place m r s h
  work-goes tell t inner inner_too c x (program.toggle one) r s h = toggle-alike e tell t x.model one s h
  work-goes tell t inner inner_too c x (program.set_focus n) r s h = focus-alike e n s h
  work-goes tell t inner inner_too c x (program.dispatch w) r s h = act-dispatch-alike e tell t w s h
  work-goes tell t inner inner_too c x (program.send target) r s h = act-send-alike e tell t target s h
  work-goes tell t inner inner_too c x (program.load resource) r s h = load-alike e x resource s h
  work-goes tell t inner inner_too c x program.message r s h = message-alike e x s h
  work-goes tell t inner inner_too c x (program.on_model name) r s h = act-model-alike e tell t name x.model s h

  begun-goes : (tell : Tell) → Tells e tell → (z : Fired) (inner inner_too : ℕ → Run) → ((n : ℕ) → Goes e (inner n) (inner_too n)) → (n : ℕ) (a : Act) → ActGoes e.f a
      → Goes e (begun e.p tell z inner n a) (begun e.p tell (renumbered_fired e.f z) inner_too n a)
  begun-goes tell t z inner inner_too c n a r s h =
      let run : (ℕ → Run) → Acting → Run = λ further x. repeated e.p x a.repetition (if_true e.p x a.condition (done_by e.p tell further x a.work)) in
      eval-alike e (option_map (renumbered_acting e)) (acting e.p z n s) (acting e.p (renumbered_fired e.f z) n (other e s)) (λ one. where_some one (run inner) s) (λ one. where_some one (run inner_too) (other e s))
      (acting-goes e z n s h)
      (λ one. some-alike e (renumbered_acting e) one (option_map (renumbered_acting e) one) (run inner) (run inner_too) s refl h
      (λ x. let y = renumbered_acting e x in
      repeated-goes x a.repetition r.repetition (if_true e.p x a.condition (done_by e.p tell inner x a.work)) (if_true e.p y a.condition (done_by e.p tell inner_too y a.work))
      (if-goes x a.condition r.condition (done_by e.p tell inner x a.work) (done_by e.p tell inner_too y a.work) (work-goes tell t inner inner_too c x a.work r.work)) s h))

  role-some : (tell : Tell) → Tells e tell → (z : Fired) (inner inner_too : ℕ → Run) → ((n : ℕ) → Goes e (inner n) (inner_too n)) → (n : ℕ) (s : State) → Fits e s → (role : Role) → RoleGoes e.f role
      → Alike e (where_some (act_in role) (begun e.p tell z inner n) s) (where_some (act_in role) (begun e.p tell (renumbered_fired e.f z) inner_too n) (other e s))
  role-some tell t z inner inner_too c n s h (program.action a) r = begun-goes tell t z inner inner_too c n a r s h
  role-some tell t z inner inner_too c n s h (program.model k) r = record { is = refl; fits = h }
  role-some tell t z inner inner_too c n s h (program.submission k) r = record { is = refl; fits = h }
  role-some tell t z inner inner_too c n s h program.entry r = record { is = refl; fits = h }
  role-some tell t z inner inner_too c n s h program.trigger r = record { is = refl; fits = h }
  role-some tell t z inner inner_too c n s h (program.submit target) r = record { is = refl; fits = h }
  role-some tell t z inner inner_too c n s h program.other r = record { is = refl; fits = h }

  within-goes : (most : ℕ) (tell : Tell) → Tells e tell → (z : Fired) (n : ℕ) → Goes e (act_within most e.p tell z n) (act_within most e.p tell (renumbered_fired e.f z) n)
  within-goes zero tell t z n s h = record { is = refl; fits = h }
  within-goes (suc most) tell t z n s h =
      role-some tell t z (act_within most e.p tell z) (act_within most e.p tell (renumbered_fired e.f z)) (within-goes most tell t z) n s h (role_at s.form n) (roles-go e s h.form n)

  act-goes : (tell : Tell) → Tells e tell → (z : Fired) (n : ℕ) → Goes e (act e.p tell z n) (act e.p tell (renumbered_fired e.f z) n)
  act-goes tell t z n s h = within-goes (length s.form.roles) tell t z n s h

  -- ---- default actions

  choose-goes : (b : Bool) (one two : Run) → Goes e one one → Goes e two two → Goes e (if b then one else two) (if b then one else two)
  choose-goes true one two c d = c
  choose-goes false one two c d = d

  recalculate-goes : (model : ℕ) → Goes e (recalculate_now e.p model) (recalculate_now e.p model)
  recalculate-goes model s h =
      then-alike e (due_rebuild e.p model s) (due_rebuild e.p model (other e s)) (recalculate e.p model) (recalculate e.p model) (due-rebuild-alike e model s h) (recalculate-alike e model)

  revalidate-goes : (model : ℕ) → Goes e (revalidate_now e.p model) (revalidate_now e.p model)
  revalidate-goes model s h =
      let last : Run = λ u. Ok (revalidate e.p model u) in
      then-alike e (due_recalculation e.p model s) (due_recalculation e.p model (other e s)) last last (due-recalculation-alike e model s h) (revalidate-alike e model)

  refresh-goes : (tell : Tell) → Tells e tell → (model : ℕ) → Goes e (refresh_now e.p tell model) (refresh_now e.p tell model)
  refresh-goes tell t model s h =
      then-alike e (due_revalidation e.p model s) (due_revalidation e.p model (other e s)) (refresh e.p (refresh_cleared model) tell) (refresh e.p (refresh_cleared model) tell)
      (due-revalidation-alike e model s h) (refresh-alike e (refresh_cleared model) (one-clears e model) tell t)

  model-goes : (tell : Tell) → Tells e tell → (model : ℕ) (name : List ℕ) → Goes e (of_model e.p tell model name) (of_model e.p tell model name)
  model-goes tell t model name =
      let reset_or = λ (run : Run). if bytes_eq name (codes "xforms-reset") then reset e.p model else run in
      let refresh_or = λ (run : Run). if bytes_eq name (codes "xforms-refresh") then refresh_now e.p tell model else run in
      let revalidate_or = λ (run : Run). if bytes_eq name (codes "xforms-revalidate") then revalidate_now e.p model else run in
      let recalculate_or = λ (run : Run). if bytes_eq name (codes "xforms-recalculate") then recalculate_now e.p model else run in
      choose-goes (bytes_eq name (codes "xforms-rebuild")) (rebuild e.p model) (recalculate_or (revalidate_or (refresh_or (reset_or nothing)))) (rebuild-alike e model)
      (choose-goes (bytes_eq name (codes "xforms-recalculate")) (recalculate_now e.p model) (revalidate_or (refresh_or (reset_or nothing))) (recalculate-goes model)
      (choose-goes (bytes_eq name (codes "xforms-revalidate")) (revalidate_now e.p model) (refresh_or (reset_or nothing)) (revalidate-goes model)
      (choose-goes (bytes_eq name (codes "xforms-refresh")) (refresh_now e.p tell model) (reset_or nothing) (refresh-goes tell t model)
      (choose-goes (bytes_eq name (codes "xforms-reset")) (reset e.p model) nothing (reset-alike e model) (λ s h. record { is = refl; fits = h })))))

  role-goes : (tell : Tell) → Tells e tell → (name : List ℕ) (role : Role) → Goes e (of_role e.p e.answers tell name role) (of_role e.p e.answers tell name role)
  role-goes tell t name (program.model k) s h = model-goes tell t k name s h
  role-goes tell t name (program.submission k) s h = let b = bytes_eq name (codes "xforms-submit") in when-alike e b b (submit e.p e.answers tell k) (submit e.p e.answers tell k) s refl h (submit-alike e tell t k s h)
  role-goes tell t name (program.submit target) s h = let b = bytes_eq name (codes "DOMActivate") in when-alike e b b (act_send tell target) (act_send tell target) s refl h (act-send-alike e tell t target s h)
  role-goes tell t name (program.action a) s h = record { is = refl; fits = h }
  role-goes tell t name program.entry s h = record { is = refl; fits = h }
  role-goes tell t name program.trigger s h = record { is = refl; fits = h }
  role-goes tell t name program.other s h = record { is = refl; fits = h }

  -- ---- dispatch

  abbrev Furthers : Further → Type 0
  Furthers further = (b : Bool) → Tells e (further b)

  handle-goes : (further : Further) → Furthers further → (is_idle : Bool) (z : Fired) (n : ℕ) → Goes e (handle e.p further is_idle z n) (handle e.p further is_idle (renumbered_fired e.f z) n)
  handle-goes further t is_idle z n s h =
      let last : Run = when is_idle (update e.p (further false)) in
      then-alike e (act e.p (further false) z n s) (act e.p (further false) (renumbered_fired e.f z) n (other e s)) last last (act-goes (further false) (t false) z n s h)
      (λ u k. when-alike e is_idle is_idle (update e.p (further false)) (update e.p (further false)) u refl k (update-alike e (further false) (t false) u k))

  after-goes : (further : Further) → Furthers further → (is_idle : Bool) (z : Fired) → Goes e (after_all e.p e.answers further is_idle z) (after_all e.p e.answers further is_idle (renumbered_fired e.f z))
  after-goes further t is_idle z s h =
      let last : Run = when is_idle (update e.p (further false)) in
      then-alike e (default e.p e.answers (further is_idle) z s) (default e.p e.answers (further is_idle) (renumbered_fired e.f z) (other e s)) last last
      (role-goes (further is_idle) (t is_idle) z.event.name (role_at s.form z.event.target) s h)
      (λ u k. when-alike e is_idle is_idle (update e.p (further false)) (update e.p (further false)) u refl k (update-alike e (further false) (t false) u k))

  handled-goes : (further : Further) → Furthers further → (is_idle : Bool) (z : Fired) → Goes e (handled e.p e.answers further is_idle z) (handled e.p e.answers further is_idle (renumbered_fired e.f z))
  handled-goes further t is_idle z s h =
      let called = calls (interface s) z.event in
      let one : Fired → ℕ → Run = handle e.p further is_idle in
      let last : Fired → Run = λ y. when called.with_default (after_all e.p e.answers further is_idle y) in
      then-alike e (in_turn (one z) called.handlers s) (in_turn (one (renumbered_fired e.f z)) called.handlers (other e s)) (last z) (last (renumbered_fired e.f z))
      (kept-turn e (one z) (one (renumbered_fired e.f z)) called.handlers (handle-goes further t is_idle z) s h)
      (λ u k. when-alike e called.with_default called.with_default (after_all e.p e.answers further is_idle z) (after_all e.p e.answers further is_idle (renumbered_fired e.f z)) u refl k (after-goes further t is_idle z u k))

  pub dispatch-goes : (most : ℕ) → Furthers (dispatch e.p e.answers most)
  dispatch-goes zero is_idle z s h =
      then-alike e (spend s) (spend (other e s)) (refused depth) (refused depth) (spend-alike e s h) (λ u k. record { is = refl; fits = tt })
  dispatch-goes (suc most) is_idle z s h =
      then-alike e (spend s) (spend (other e s)) (handled e.p e.answers (dispatch e.p e.answers most) is_idle z) (handled e.p e.answers (dispatch e.p e.answers most) is_idle (renumbered_fired e.f z)) (spend-alike e s h)
      (handled-goes (dispatch e.p e.answers most) (dispatch-goes most) is_idle z)
