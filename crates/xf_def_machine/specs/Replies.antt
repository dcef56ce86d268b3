-- What is written for the lines of the event stream, and what they make of the state. Where several limits are passed at one time, any of
-- their words may be told: so that this is a relation.
use Rattle.std.specs.Prelude.{ℕ, ◌≡◌, Bool, List, [], ◌∷◌, ◌++◌, map, length, codes, decimal, nat_lt, Contains, Result, Ok, Err, ◌==◌, ◌||◌, if◌then◌else◌}
use Rattle.std.specs.List.{flat_map, list_all}
use Rattle.xf_base.specs.Limits.{line_limit}
use Rattle.xf_line.specs.declared.event.Asked.{Asked}
use Rattle.xf_line.specs.declared.event.Asked.TheVariants as asked
use Rattle.xf_line.specs.declared.fault.LineFault.{LineFault}
use Rattle.xf_line.specs.declared.fault.LineFault.TheVariants.{NotJson, NotEvent, Memory}
use Rattle.xf_line.specs.Line.{asked_by}
use Rattle.xf_store.specs.declared.answers.Answer.{Answer}
use Rattle.xf_store.specs.declared.call.StoreCall.{StoreCall}
use Rattle.xf_def_machine.specs.declared.limit.LimitWord.{LimitWord}
use Rattle.xf_def_machine.specs.declared.limit.LimitWord.TheVariants as word
use Rattle.xf_def_machine.specs.declared.note.Note.{Note}
use Rattle.xf_def_machine.specs.Profile.{Profile}
use Rattle.xf_def_machine.specs.State.{State}
use Rattle.xf_def_machine.specs.Refusal.{Refusal}
use Rattle.xf_def_machine.specs.Refusal as refusal
use Rattle.xf_def_machine.specs.NoteLines.{note_line}
use Rattle.xf_def_machine.specs.Step.{Posted, Outcome, accepted, refused, step}
use Rattle.xf_def_machine.specs.StateText.{spaced, line_of}
use Rattle.xf_def_machine.specs.ControlText.{state_text}

-- ---- an accepted event

-- whether evaluations are counted
abbrev pub count_part : Bool → ℕ → List ℕ
count_part Bool.true count = spaced (decimal count)
count_part Bool.false count = []

-- those of the notes, in order
abbrev pub note_lines : List Note → List ℕ
note_lines notes = flat_map note_line notes

-- the notes, then how many events were accepted
abbrev pub ok_text : Bool → State → Posted → List ℕ
ok_text counts s posted = note_lines posted.notes ++ line_of (codes "ok " ++ decimal s.accepted ++ count_part counts posted.evaluated)

-- ---- a refused event

-- the word of a limit
abbrev pub limit_text : LimitWord → List ℕ
limit_text word.Nodes = codes "nodes"
limit_text word.Text = codes "text"
limit_text word.All = codes "all"
limit_text word.Depth = codes "depth"
limit_text word.Long = codes "long"
limit_text word.Edges = codes "edges"
limit_text word.Controls = codes "controls"
limit_text word.Passes = codes "passes"
limit_text word.Notes = codes "notes"
limit_text word.Made = codes "made"
limit_text word.Counts = codes "counts"

-- each line that may be written for it
abbrev pub refusal_texts : Refusal → List (List ℕ)
refusal_texts refusal.no_target = codes "no E4 NoSuchTarget" ∷ []
refusal_texts refusal.disabled = codes "no E5 Disabled" ∷ []
refusal_texts refusal.readonly = codes "no E6 ReadOnly" ∷ []
refusal_texts refusal.not_an_item = codes "no E7 NotAnItem" ∷ []
refusal_texts refusal.bad_index = codes "no E8 BadIndex" ∷ []
refusal_texts (refusal.twice path) = (codes "no E9 Binding" ++ spaced path) ∷ []
refusal_texts (refusal.on_parent path) = (codes "no E9 Binding" ++ spaced path) ∷ []
refusal_texts (refusal.binding path) = (codes "no E9 Binding" ++ spaced path) ∷ []
refusal_texts (refusal.circular paths) = (codes "no E10 Circular" ++ flat_map spaced paths) ∷ []
refusal_texts (refusal.limit words) = map (λ w. codes "no E11 Limit " ++ limit_text w) words
refusal_texts refusal.budget = codes "no E12 Budget" ∷ []
refusal_texts refusal.depth = codes "no E13 Depth" ∷ []
refusal_texts refusal.sends = codes "no E14 Sends" ∷ []

-- ---- a line

-- what is written, the state after it, and the calls of the store in it
pub record Reply : Type 0 where
  pub texts : List (List ℕ)
  pub after : State
  pub calls : List StoreCall

-- the state stays, and no call is made
abbrev pub without_event : State → List (List ℕ) → Reply
without_event s texts = record { texts = texts; after = s; calls = [] }

-- by how the event ended
abbrev pub reply_outcome : Bool → State → Outcome → Reply
reply_outcome counts s (accepted t posted) = record { texts = ok_text counts t posted ∷ []; after = t; calls = posted.calls }
reply_outcome counts s (refused why calls) = record { texts = map line_of (refusal_texts why); after = s; calls = calls }

-- to an event, or to a line that asks for the state
abbrev pub reply_asked : Profile → Bool → State → List Answer → Asked → Reply
reply_asked p counts s answers (asked.Event event) = reply_outcome counts s (step p s event answers)
reply_asked p counts s answers asked.Show = without_event s (state_text p s ∷ [])

-- to what was read of the line
abbrev pub reply_read : Profile → Bool → State → List Answer → Result Asked LineFault → Reply
reply_read p counts s answers (Ok asked) = reply_asked p counts s answers asked
reply_read p counts s answers (Err NotJson) = without_event s (codes "no E2 NotJson\n" ∷ [])
reply_read p counts s answers (Err NotEvent) = without_event s (codes "no E3 NotEvent\n" ∷ [])
reply_read p counts s answers (Err Memory) = without_event s []

-- a space, a tab or a carriage return
abbrev pub is_blank : ℕ → Bool
is_blank b = b == 32 || b == 9 || b == 13

-- with the answers of the store to the calls of this line; a line of blanks has no reply
abbrev pub reply : Profile → Bool → State → List Answer → List ℕ → Reply
reply p counts s answers line =
    if nat_lt line_limit (length line) then without_event s (codes "no E1 LineTooLong\n" ∷ [])
    else if list_all is_blank line then without_event s ([] ∷ [])
    else reply_read p counts s answers (asked_by line)

-- ---- lines, one after the other

-- those of the calls, in order
abbrev pub answers_in : List StoreCall → List Answer
answers_in calls = map (λ c. c.answer) calls

-- these bytes are written for the lines, and these calls of the store are made, each line having the answers to its own; the last state is left
abbrev pub Replies : Profile → Bool → State → List (List ℕ) → List StoreCall → List ℕ → State → Type 0
Replies p counts s [] calls written last = (calls ≡ []) × (written ≡ []) × (last ≡ s)
Replies p counts s (line ∷ lines) calls written last =
    (own more : List StoreCall) × (text rest : List ℕ) × ((reply p counts s (answers_in own) line).calls ≡ own)
    × Contains (reply p counts s (answers_in own) line).texts text × Replies p counts (reply p counts s (answers_in own) line).after lines more rest last
    × (calls ≡ own ++ more) × (written ≡ text ++ rest)
