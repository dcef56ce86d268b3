-- Nothing is due where an update has ended, and so after each event from outside.
use Rattle.std.proofs.Common.{ℕ, zero, suc, ◌≡◌, Bool, true, false, not, List, [], codes, length, refl}
use Rattle.xf_line.specs.declared.event.Event.{Event}
use Rattle.xf_line.specs.declared.event.Event.TheVariants.{Set, Activate, Index, Send, Dispatch, Reset}
use Rattle.xf_store.specs.declared.answers.Answer.{Answer}
use Rattle.xf_def_ui.specs.Calls.{calls}
use Rattle.xf_def_ui.specs.Index.{rows_now}
use Rattle.xf_def_machine.specs.Profile.{Profile}
use Rattle.xf_def_machine.specs.State.{State}
use Rattle.xf_def_machine.specs.Refusal.{depth, disabled, bad_index, refused, or_long}
use Rattle.xf_def_machine.specs.Flow.{Run, ◌>>=◌, when, in_turn}
use Rattle.xf_def_machine.specs.Surround.{interface, quiet}
use Rattle.xf_def_machine.specs.Primitives.{spent_from, spend}
use Rattle.xf_def_machine.specs.Cycles.{counted_from}
use Rattle.xf_def_machine.specs.Update.{is_due, round, rounds, update}
use Rattle.xf_def_machine.specs.Events.{Fired, Tell, fired, fired_at, plainly, model_element}
use Rattle.xf_def_machine.specs.Act.{act}
use Rattle.xf_def_machine.specs.Default.{default}
use Rattle.xf_def_machine.specs.Dispatch.{Further, handle, after_all, handled, dispatch}
use Rattle.xf_def_machine.specs.Choose.{named_copy, set_index}
use Rattle.xf_def_machine.specs.Targets.{element_named, is_entry, is_trigger, is_submission, by_role, is_repeat_in, or_no_target, copy_named, unless, model_around, take_rows}
use Rattle.xf_def_machine.specs.Step.{settle, tell, set_bound, try_set, set, activate, is_row, index, to_element, model_named, changed_by}
use Rattle.xf_def_machine.specs.Start.{tell_model, tell_models}
use Rattle.xf_law_machine.proofs.RestLemmas.Holds.{Held, held-then, held-any, held-when, held-some, held-turn}

abbrev pub NotDue : State → Type 0
NotDue s = is_due s ≡ false

when-due : (b : Bool) (run : Run) (s : State) → is_due s ≡ b → Held NotDue (run s) → Held NotDue (when b run s)
when-due false run s e h = e
when-due true run s e h = h

rounds-rest : (left : ℕ) (once : Run) (s : State) → Held NotDue (rounds left once s)
rounds-rest zero once s = tt
rounds-rest (suc left) once s =
    when-due (is_due s) (λ t. spend t >>= once >>= rounds left once) s refl (held-any NotDue (spend s >>= once) (rounds left once) (rounds-rest left once))

pub update-rests : (p : Profile) (tell : Tell) (s : State) → Held NotDue (update p tell s)
update-rests p tell s = rounds-rest (suc s.turns) (round p tell) s

spent-rests : (left : ℕ) (s : State) → NotDue s → Held NotDue (spent_from left s)
spent-rests zero s h = tt
spent-rests (suc left) s h = h

-- ---- dispatch where no action and no update is running

handle-rests : (p : Profile) (further : Further) (e : Fired) (n : ℕ) (s : State) → Held NotDue (handle p further true e n s)
handle-rests p further e n s = held-any NotDue (act p (further false) e n s) (when true (update p (further false))) (λ u. update-rests p (further false) u)

after-rests : (p : Profile) (answers : List Answer) (further : Further) (e : Fired) (s : State) → Held NotDue (after_all p answers further true e s)
after-rests p answers further e s = held-any NotDue (default p answers (further true) e s) (when true (update p (further false))) (λ u. update-rests p (further false) u)

handled-rests : (p : Profile) (answers : List Answer) (further : Further) (e : Fired) (s : State) → NotDue s → Held NotDue (handled p answers further true e s)
handled-rests p answers further e s h =
    let called = calls (interface s) e.event in
    held-then NotDue NotDue (in_turn (handle p further true e) called.handlers s) (when called.with_default (after_all p answers further true e))
    (held-turn NotDue (handle p further true e) called.handlers (λ n t i. handle-rests p further e n t) s h)
    (λ u i. held-when NotDue called.with_default (after_all p answers further true e) u i (after-rests p answers further e u))

pub dispatch-rests : (p : Profile) (answers : List Answer) (most : ℕ) (e : Fired) (s : State) → NotDue s → Held NotDue (dispatch p answers most true e s)
dispatch-rests p answers zero e s h = held-then NotDue NotDue (spend s) (refused depth) (spent-rests s.turns s h) (λ u i. tt)
dispatch-rests p answers (suc most) e s h = held-then NotDue NotDue (spend s) (handled p answers (dispatch p answers most) true e) (spent-rests s.turns s h) (handled-rests p answers (dispatch p answers most) e)

tell-rests : (p : Profile) (answers : List Answer) (e : Fired) (s : State) → NotDue s → Held NotDue (tell p answers e s)
tell-rests p answers e s h = dispatch-rests p answers p.depth e s h

pub models-told : (p : Profile) (answers : List Answer) (name : List ℕ) (s : State) → NotDue s → Held NotDue (tell_models p answers name s)
models-told p answers name s h = held-turn NotDue (tell_model p answers name) (counted_from 0 (length s.models)) (λ model t i. tell-rests p answers (fired_at t name [] (model_element t model)) t i) s h

-- ---- events from outside

settle-rests : (p : Profile) (answers : List Answer) (s : State) → Held NotDue (settle p answers s)
settle-rests p answers s = update-rests p (dispatch p answers p.depth false) s

set-rests : (p : Profile) (answers : List Answer) (n : ℕ) (rows text : List ℕ) (s : State) → Held NotDue (set p answers n rows text s)
set-rests p answers n rows text s =
    held-any NotDue (copy_named p s n rows) (λ c. try_set n c text s >>= take_rows p n rows >>= set_bound p text c.node >>= settle p answers)
    (λ c. held-any NotDue (try_set n c text s >>= take_rows p n rows >>= set_bound p text c.node) (settle p answers) (settle-rests p answers))

activate-rests : (p : Profile) (answers : List Answer) (n : ℕ) (rows : List ℕ) (s : State) → Held NotDue (activate p answers n rows s)
activate-rests p answers n rows s =
    held-any NotDue (copy_named p s n rows)
    (λ c. unless (not c.enabled) disabled s >>= take_rows p n rows >>= settle p answers >>= tell p answers (plainly (codes "DOMActivate") n c.rows))
    (λ c. held-then NotDue NotDue (unless (not c.enabled) disabled s >>= take_rows p n rows >>= settle p answers) (tell p answers (plainly (codes "DOMActivate") n c.rows))
    (held-any NotDue (unless (not c.enabled) disabled s >>= take_rows p n rows) (settle p answers) (settle-rests p answers)) (tell-rests p answers (plainly (codes "DOMActivate") n c.rows)))

index-rests : (p : Profile) (answers : List Answer) (r k : ℕ) (s : State) → Held NotDue (index p answers r k s)
index-rests p answers r k s =
    held-any NotDue (or_long s (rows_now (interface s) (quiet p s) s.indexes r))
    (λ rows. unless (not (is_row rows k)) bad_index s >>= set_index p (model_around (interface s) r) r k >>= settle p answers)
    (λ rows. held-any NotDue (unless (not (is_row rows k)) bad_index s >>= set_index p (model_around (interface s) r) r k) (settle p answers) (settle-rests p answers))

element-rests : (p : Profile) (answers : List Answer) (name : List ℕ) (n : ℕ) (s : State) → NotDue s → Held NotDue (to_element p answers name n s)
element-rests p answers name n s h =
    held-some NotDue (named_copy s n) (λ rows t. tell p answers (fired name true true [] n rows) t) s h (λ rows. tell-rests p answers (fired name true true [] n rows) s h)

pub changed-rests : (p : Profile) (answers : List Answer) (event : Event) (s : State) → NotDue s → Held NotDue (changed_by p answers event s)
changed-rests p answers (Set id rows text) s h =
    held-any NotDue (or_no_target s (element_named s (by_role s is_entry) id)) (λ n. set p answers n rows text s) (λ n. set-rests p answers n rows text s)
changed-rests p answers (Activate id rows) s h =
    held-any NotDue (or_no_target s (element_named s (by_role s is_trigger) id)) (λ n. activate p answers n rows s) (λ n. activate-rests p answers n rows s)
changed-rests p answers (Index id k) s h =
    held-any NotDue (or_no_target s (element_named s (is_repeat_in s) id)) (λ r. index p answers r k s) (λ r. index-rests p answers r k s)
changed-rests p answers (Send id) s h =
    held-any NotDue (or_no_target s (element_named s (by_role s is_submission) id)) (λ n. to_element p answers (codes "xforms-submit") n s)
    (λ n. element-rests p answers (codes "xforms-submit") n s h)
changed-rests p answers (Dispatch name id) s h =
    held-any NotDue (or_no_target s (element_named s (λ n. true) id)) (λ n. to_element p answers name n s) (λ n. element-rests p answers name n s h)
changed-rests p answers (Reset id) s h =
    held-any NotDue (or_no_target s (model_named s id)) (λ n. to_element p answers (codes "xforms-reset") n s) (λ n. element-rests p answers (codes "xforms-reset") n s h)
