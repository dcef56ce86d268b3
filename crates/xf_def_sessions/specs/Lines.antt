-- What is written for the lines of a session, and what they make of it. Beside the lines of the event stream these two: ["undo"] and ["redo"].
use Rattle.std.specs.Prelude.{ℕ, ◌≡◌, ◌⊎◌, Bool, List, [], ◌∷◌, ◌++◌, nat_lt, sum_by, length, codes, bytes_eq, Contains, Option, Some, Result, Ok, Err, if◌then◌else◌}
use Rattle.serde_json.specs.Data.{Data, string, array, no_items, item}
use Rattle.xf_base.specs.Limits.{line_limit}
use Rattle.xf_json.specs.Element.{value_in}
use Rattle.xf_line.specs.declared.event.Asked.{Asked}
use Rattle.xf_line.specs.declared.event.Asked.TheVariants as asked
use Rattle.xf_line.specs.declared.fault.LineFault.{LineFault}
use Rattle.xf_line.specs.Line.{asked_by}
use Rattle.xf_store.specs.declared.answers.Answer.{Answer}
use Rattle.xf_store.specs.declared.call.StoreCall.{StoreCall}
use Rattle.xf_def_machine.specs.State.{Model, State}
use Rattle.xf_def_machine.specs.Step.{Outcome, accepted, refused, step}
use Rattle.xf_def_machine.specs.Replies.{reply, ok_text, answers_in}
use Rattle.xf_def_sessions.specs.Sessions.{Machine, Session}
use Rattle.xf_def_sessions.specs.History.{after_event, Undoes, Redoes}

-- ---- what a line asks for

pub data Wanted : Type 0 where
  -- what the form machine answers
  of_machine : Wanted
  back : Wanted
  again : Wanted

abbrev pub wanted_word : List ℕ → Wanted
wanted_word word = if bytes_eq word (codes "undo") then back else if bytes_eq word (codes "redo") then again else of_machine

abbrev pub wanted_of : Option Data → Wanted
wanted_of (Some (array (item (string word) no_items))) = wanted_word word
wanted_of value = of_machine

-- a line that is too long asks for nothing: the machine tells so
abbrev pub wanted_by : List ℕ → Wanted
wanted_by line = if nat_lt line_limit (length line) then of_machine else wanted_of (value_in line)

-- ---- events

abbrev pub after_outcome : Machine → Session → Outcome → Session
after_outcome m s (accepted t posted) = after_event m s t
after_outcome m s (refused why calls) = s

-- the session after what the machine is asked for
abbrev pub after_asked : Machine → Session → List Answer → Result Asked LineFault → Session
after_asked m s answers (Ok (asked.Event event)) = after_outcome m s (step m.profile s.state event answers)
after_asked m s answers (Ok asked.Show) = s
after_asked m s answers (Err fault) = s

-- the session after a line that the machine answers
abbrev pub after_machine : Machine → Session → List Answer → List ℕ → Session
after_machine m s answers line = if nat_lt line_limit (length line) then s else after_asked m s answers (asked_by line)

-- ---- what is undone

-- the entries of all models: each is evaluated anew
abbrev pub entry_count : State → ℕ
entry_count s = sum_by (λ (model : Model). length model.entries) s.models

abbrev pub again_text : Bool → State → List ℕ
again_text counts s = ok_text counts s (record { notes = []; evaluated = entry_count s; calls = [] })

-- ---- a line

-- nothing is there, or the last of it comes back
abbrev pub RepliesBack : Machine → Bool → Session → List ℕ → Session → Type 0
RepliesBack m counts s text t =
    ((s.past ≡ []) × (t ≡ s) × (text ≡ codes "no E16 NothingToUndo\n")) ⊎ (Undoes m s t × (text ≡ again_text counts t.state))

abbrev pub RepliesAgain : Machine → Bool → Session → List ℕ → Session → Type 0
RepliesAgain m counts s text t =
    ((s.future ≡ []) × (t ≡ s) × (text ≡ codes "no E17 NothingToRedo\n")) ⊎ (Redoes m s t × (text ≡ again_text counts t.state))

-- this is written, with these calls of the store, and this is the session then
abbrev pub RepliesBy : Machine → Bool → Session → List ℕ → Wanted → List StoreCall → List ℕ → Session → Type 0
RepliesBy m counts s line of_machine calls text t =
    let r = reply m.profile counts s.state (answers_in calls) line in
    (r.calls ≡ calls) × Contains r.texts text × (t ≡ after_machine m s (answers_in calls) line)
RepliesBy m counts s line back calls text t = (calls ≡ []) × RepliesBack m counts s text t
RepliesBy m counts s line again calls text t = (calls ≡ []) × RepliesAgain m counts s text t

-- ---- lines, one after the other

abbrev pub Replies : Machine → Bool → Session → List (List ℕ) → List StoreCall → List ℕ → Session → Type 0
Replies m counts s [] calls written last = (calls ≡ []) × (written ≡ []) × (last ≡ s)
Replies m counts s (line ∷ lines) calls written last =
    (own more : List StoreCall) × (text rest : List ℕ) × (next : Session) × RepliesBy m counts s line (wanted_by line) own text next
    × Replies m counts next lines more rest last × (calls ≡ own ++ more) × (written ≡ text ++ rest)
