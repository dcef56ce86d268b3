-- One step of the machine: an event from outside is tried, changes what it names, and what is due is done; then the detached trees are dropped.
use Rattle.std.specs.Prelude.{ℕ, suc, Bool, true, false, not, ◌&&◌, List, [], ◌∷◌, length, codes, nat_le, Option, Some, Result, Ok, Err}
use Rattle.xf_line.specs.declared.event.Event.{Event}
use Rattle.xf_line.specs.declared.event.Event.TheVariants.{Set, Activate, Index, Send, Dispatch, Reset}
use Rattle.xf_store.specs.declared.answers.Answer.{Answer}
use Rattle.xf_store.specs.declared.call.StoreCall.{StoreCall}
use Rattle.xf_def_forest.specs.Changes.{in_instances}
use Rattle.xf_def_ui.specs.Copies.{Copy}
use Rattle.xf_def_ui.specs.Elements.{element_at}
use Rattle.xf_def_ui.specs.Index.{rows_now}
use Rattle.xf_def_machine.specs.declared.note.Note.{Note}
use Rattle.xf_def_machine.specs.Profile.{Profile}
use Rattle.xf_def_machine.specs.State.{State}
use Rattle.xf_def_machine.specs.Refusal.{Refusal, Refused, disabled, readonly, not_an_item, bad_index, or_long}
use Rattle.xf_def_machine.specs.Flow.{Run, ◌>>=◌, where_some}
use Rattle.xf_def_machine.specs.Surround.{interface, quiet}
use Rattle.xf_def_machine.specs.SetValue.{set_node}
use Rattle.xf_def_machine.specs.Choose.{named_copy, set_index}
use Rattle.xf_def_machine.specs.Events.{Fired, fired, plainly, model_element}
use Rattle.xf_def_machine.specs.Update.{update}
use Rattle.xf_def_machine.specs.Dispatch.{dispatch}
use Rattle.xf_def_machine.specs.Targets.{element_named, is_entry, is_trigger, is_model, is_submission, by_role, is_repeat_in, or_no_target, copy_named, unless, takes_text, model_around, take_rows}

-- ---- what every event does, over the answers of the store in it

-- what is due after the change of the event itself
abbrev pub settle : Profile → List Answer → Run
settle p answers s = update p (dispatch p answers p.depth false) s

-- the outermost dispatch
abbrev pub tell : Profile → List Answer → Fired → Run
tell p answers e s = dispatch p answers p.depth true e s

-- ---- each event

-- the text of the node that the copy binds, where it binds one
abbrev pub set_bound : Profile → List ℕ → Option ℕ → Run
set_bound p text bound s = where_some bound (λ n. set_node p n text) s

-- tried in this order: the control is enabled, its node is not readonly, its items allow the text
abbrev pub try_set : ℕ → Copy → List ℕ → Run
try_set n c text s =
    unless (not c.enabled) disabled s >>= unless (not c.readwrite) readonly
    >>= unless (not (takes_text (element_at (interface s) n).sort c text)) not_an_item

-- the text of a control's node
abbrev pub set : Profile → List Answer → ℕ → List ℕ → List ℕ → Run
set p answers n rows text s =
    copy_named p s n rows >>= λ c. try_set n c text s >>= take_rows p n rows >>= set_bound p text c.node >>= settle p answers

-- a trigger or submit
abbrev pub activate : Profile → List Answer → ℕ → List ℕ → Run
activate p answers n rows s =
    copy_named p s n rows >>= λ c. unless (not c.enabled) disabled s >>= take_rows p n rows >>= settle p answers
    >>= tell p answers (plainly (codes "DOMActivate") n c.rows)

-- the number is one of the rows
abbrev pub is_row : List ℕ → ℕ → Bool
is_row rows k = nat_le 1 k && nat_le k (length rows)

-- the index of a repeat
abbrev pub index : Profile → List Answer → ℕ → ℕ → Run
index p answers r k s =
    or_long s (rows_now (interface s) (quiet p s) s.indexes r) >>= λ rows. unless (not (is_row rows k)) bad_index s
    >>= set_index p (model_around (interface s) r) r k >>= settle p answers

-- to the copy in the indexed rows: where an index is 0 there is none, and nothing is told
abbrev pub to_copy : Profile → List Answer → (State → List ℕ → Fired) → ℕ → Run
to_copy p answers event n s = where_some (named_copy s n) (λ rows t. tell p answers (event t rows) t) s

-- an event of this name
abbrev pub to_element : Profile → List Answer → List ℕ → ℕ → Run
to_element p answers name n = to_copy p answers (λ s rows. fired name true true [] n rows) n

-- the empty text names the first model
abbrev pub model_named : State → List ℕ → Option ℕ
model_named s [] = Some (model_element s 0)
model_named s (b ∷ bs) = element_named s (by_role s is_model) (b ∷ bs)

-- what the event names is looked for, and then it is done
abbrev pub changed_by : Profile → List Answer → Event → Run
changed_by p answers (Set id rows text) s = or_no_target s (element_named s (by_role s is_entry) id) >>= λ n. set p answers n rows text s
changed_by p answers (Activate id rows) s = or_no_target s (element_named s (by_role s is_trigger) id) >>= λ n. activate p answers n rows s
changed_by p answers (Index id k) s = or_no_target s (element_named s (is_repeat_in s) id) >>= λ r. index p answers r k s
changed_by p answers (Send id) s = or_no_target s (element_named s (by_role s is_submission) id) >>= λ n. to_element p answers (codes "xforms-submit") n s
changed_by p answers (Dispatch name id) s = or_no_target s (element_named s (λ n. true) id) >>= λ n. to_element p answers name n s
changed_by p answers (Reset id) s = or_no_target s (model_named s id) >>= λ n. to_element p answers (codes "xforms-reset") n s

-- ---- the step

-- with a whole budget
abbrev pub fresh : Profile → State → State
fresh p s = record s { notes = []; turns = p.turns; made = 0; evaluated = 0; calls = [] }

-- what an accepted event gives out
pub record Posted : Type 0 where
  pub notes : List Note
  -- the evaluations that its recalculations counted
  pub evaluated : ℕ
  pub calls : List StoreCall

-- what a state has of its event
abbrev pub posted : State → Posted
posted s = record { notes = s.notes; evaluated = s.evaluated; calls = s.calls }

-- the detached trees are dropped, and nothing of the event is left
abbrev pub at_end : Profile → State → State
at_end p s = fresh p (record s { forest = record s.forest { nodes = in_instances s.forest.nodes } })

-- how an event ends
pub data Outcome : Type 0 where
  -- with the new state
  accepted : State → Posted → Outcome
  -- with the calls of the store that were made; the old state stands
  refused : Refusal → List StoreCall → Outcome

-- of what the event made, with what comes at its end
abbrev pub outcome : (State → State) → Result State Refused → Outcome
outcome ended (Err r) = refused r.why r.calls
outcome ended (Ok s) = accepted (ended s) (posted s)

-- one event more was accepted
abbrev pub one_more : State → State
one_more s = record s { accepted = suc s.accepted }

-- the event over answers of the store
abbrev pub step : Profile → State → Event → List Answer → Outcome
step p s event answers = outcome (λ t. one_more (at_end p t)) (changed_by p answers event (fresh p s))
