-- What lines make of a session: the form machine's replies, and the events that the session takes.
use Rattle.std.specs.Prelude.{◌≡◌, ◌+◌, ℕ, Bool, true, false, List, [], ◌∷◌, ◌++◌, length, codes, nat_lt, Contains, Option, Some, None, Result, Ok, Err, if◌then◌else◌}
use Rattle.std.specs.List.{list_all}
use Rattle.xf_base.specs.Limits.{line_limit, used_limit}
use Rattle.xf_line.specs.declared.event.Asked.{Asked}
use Rattle.xf_line.specs.declared.event.Asked.TheVariants as asked
use Rattle.xf_line.specs.declared.event.Event.{Event}
use Rattle.xf_line.specs.declared.fault.LineFault.{LineFault}
use Rattle.xf_line.specs.Line.{asked_by}
use Rattle.xf_store.specs.declared.answers.Answer.{Answer}
use Rattle.xf_store.specs.declared.call.StoreCall.{StoreCall}
use Rattle.xf_journal.specs.Entry.{written_bytes}
use Rattle.xf_def_machine.specs.State.{State}
use Rattle.xf_def_machine.specs.Step.{Outcome, accepted, refused, step}
use Rattle.xf_def_machine.specs.Replies.{answers_in, is_blank, reply}
use Rattle.xf_def_form.specs.Formed.{profile}
use Rattle.xf_def_sessions.specs.Runs as history
use Rattle.xf_def_sessions.specs.Runs.{Item}

-- how far a session has come: its state and the bytes in use in its slot; and since the lines began, in order, the events that it took, the calls of
-- the store in all events, and the event that may stand on the disk without a reply
pub record Course : Type 0 where
  pub state : State
  pub used : ℕ
  pub items : List Item
  pub calls : List StoreCall
  pub in_flight : List Item

-- before any line
abbrev pub set_out : State → ℕ → Course
set_out state used = record { state = state; used = used; items = []; calls = []; in_flight = [] }

-- ---- the event of a line

abbrev pub event_asked : Result Asked LineFault → Option Event
event_asked (Ok (asked.Event event)) = Some event
event_asked (Ok asked.Show) = None
event_asked (Err fault) = None

-- a line that is too long and one of blanks ask for none
abbrev pub event_in : List ℕ → Option Event
event_in line = if nat_lt line_limit (length line) then None else if list_all is_blank line then None else event_asked (asked_by line)

-- an accepted event is taken, and stands as an entry in the slot; a refused one leaves its calls of the store
abbrev pub after_outcome : Course → List ℕ → Event → List Answer → Outcome → Course
after_outcome c line event answers (accepted s posted) = record c {
  state = s;
  used = c.used + length (written_bytes line answers);
  items = c.items ++ history.line event answers ∷ [];
  calls = c.calls ++ posted.calls;
}
after_outcome c line event answers (refused why calls) = record c { calls = c.calls ++ calls }

abbrev pub after_event : Course → List ℕ → List Answer → Option Event → Course
after_event c line answers None = c
after_event c line answers (Some event) = after_outcome c line event answers (step profile c.state event answers)

-- ---- a line

-- the form machine's reply, evaluations being counted, over the answers that the store gave to these calls
pub record IsReplied (c : Course) (line text : List ℕ) (own : List StoreCall) : Type 0 where
  pub calls : (reply profile true c.state (answers_in own) line).calls ≡ own
  pub told : Contains (reply profile true c.state (answers_in own) line).texts text

abbrev pub Replies : Course → List ℕ → List ℕ → Course → Type 0
Replies c line text d = (own : List StoreCall) × IsReplied c line text own × (d ≡ after_event c line (answers_in own) (event_in line))

-- where more bytes are in use than a journal takes an event with, none is added: making a journal small again is not built
abbrev pub not_built_reply : List ℕ
not_built_reply = codes "no E15 NotBuilt\n"

abbrev pub where_full : Bool → Type 0 → Type 0 → Type 0
where_full true full else_so = full
where_full false full else_so = else_so

-- the event of a line is not looked at where the slot is full
abbrev pub TakesEvent : Course → List ℕ → Option Event → List ℕ → Course → Type 0
TakesEvent c line None text d = Replies c line text d
TakesEvent c line (Some event) text d = where_full (nat_lt used_limit c.used) ((text ≡ not_built_reply) × (d ≡ c)) (Replies c line text d)

-- for a line this is written, and so far it comes
abbrev pub Takes : Course → List ℕ → List ℕ → Course → Type 0
Takes c line text d = TakesEvent c line (event_in line) text d

-- ---- a line that has no reply

-- where memory was wanting, some calls of the store may have been made
abbrev pub Lacks : Course → Course → Type 0
Lacks c d = (more : List StoreCall) × (d ≡ record c { calls = c.calls ++ more })

-- an event that is accepted after these calls
abbrev pub IsAccepted : Outcome → List StoreCall → Type 0
IsAccepted (accepted s posted) own = posted.calls ≡ own
IsAccepted (refused why calls) own = ⊥

-- where the disk failed as the event of a line was written, which is accepted: it may stand there, and has no reply
abbrev pub FailsAt : Course → Option Event → Course → Type 0
FailsAt c None d = ⊥
FailsAt c (Some event) d =
    (own : List StoreCall) × IsAccepted (step profile c.state event (answers_in own)) own
    × (d ≡ record c { calls = c.calls ++ own; in_flight = history.line event (answers_in own) ∷ [] })
