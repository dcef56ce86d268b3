-- What a user of a book is told: from that user's own lines, the answers of the store to their calls, and, for each join, how many users the book has before
-- it. Nothing else of the book is looked at.
use Rattle.std.specs.Prelude.{ℕ, suc, ◌≡◌, ◌^◌, Bool, true, List, [], ◌∷◌, ◌++◌, map, length, codes, decimal, nat_lt, Contains, Option, Some, None, ◌==◌, if◌then◌else◌}
use Rattle.xf_line.specs.declared.event.Asked.{Asked}
use Rattle.xf_line.specs.declared.event.Asked.TheVariants as asked
use Rattle.xf_store.specs.declared.answers.Answer.{Answer}
use Rattle.xf_store.specs.declared.call.StoreCall.{StoreCall}
use Rattle.xf_snap.specs.Spelling.{bytes_of}
use Rattle.xf_def_machine.specs.declared.note.Note.{Note}
use Rattle.xf_def_machine.specs.Profile.{Profile}
use Rattle.xf_def_machine.specs.Program.{Program}
use Rattle.xf_def_machine.specs.State.{State}
use Rattle.xf_def_machine.specs.Start.{start}
use Rattle.xf_def_machine.specs.Step.{Outcome, accepted, refused, step}
use Rattle.xf_def_machine.specs.StateText.{line_of}
use Rattle.xf_def_machine.specs.ControlText.{state_text}
use Rattle.xf_def_machine.specs.Replies.{ok_text, note_lines, refusal_texts, answers_in}
use Rattle.xf_def_sessions.specs.Sessions.{snap_of}
use Rattle.xf_def_book.specs.Lines.{Wanted, join, line}

-- ---- limits

-- users of a book
abbrev pub user_limit : ℕ
user_limit = 64

-- bytes of a user's snapshot
abbrev pub share_limit : ℕ
share_limit = 2 ^ 19

-- the state has more than a user may have
abbrev pub passes_share : State → Bool
passes_share s = nat_lt share_limit (length (bytes_of (snap_of s)))

-- ---- one line

-- each text that may be written for it, the user's state after it, where there is one, and the calls of the store in it
pub record Told : Type 0 where
  pub texts : List (List ℕ)
  pub after : Option State
  pub calls : List StoreCall

-- this is written and nothing is done
abbrev pub told_alone : Option State → List ℕ → Told
told_alone s text = record { texts = text ∷ []; after = s; calls = [] }

-- what is refused leaves the state
abbrev pub told_no : Option State → List (List ℕ) → List StoreCall → Told
told_no s texts calls = record { texts = map line_of texts; after = s; calls = calls }

-- so is an event or a start that leaves more than a user may have
abbrev pub told_within : Option State → State → List ℕ → List StoreCall → Told
told_within s t text calls =
    if passes_share t then told_no s (codes "no E11 Limit share" ∷ []) calls else record { texts = text ∷ []; after = Some t; calls = calls }

-- the notes of the start, and how many users there are then
abbrev pub joined_text : List Note → ℕ → List ℕ
joined_text notes count = note_lines notes ++ line_of (codes "joined " ++ decimal (suc count))

abbrev pub told_start : ℕ → Outcome → Told
told_start count (accepted t posted) = told_within None t (joined_text posted.notes count) posted.calls
told_start count (refused why calls) = told_no None (refusal_texts why) calls

-- of someone who is not in the book
abbrev pub told_join : Profile → Program → ℕ → List Answer → Told
told_join p form count answers = if count == user_limit then told_no None (codes "no E18 BookFull" ∷ []) [] else told_start count (start p form answers)

abbrev pub told_step : State → Outcome → Told
told_step s (accepted t posted) = told_within (Some s) t (ok_text true t posted) posted.calls
told_step s (refused why calls) = told_no (Some s) (refusal_texts why) calls

abbrev pub told_asked : Profile → State → List Answer → Asked → Told
told_asked p s answers (asked.Event event) = told_step s (step p s event answers)
told_asked p s answers asked.Show = told_alone (Some s) (state_text p s)

-- with so many users in the book, and the answers of the store to the calls of this line
abbrev pub told : Profile → Program → Option State → ℕ → List Answer → Wanted → Told
told p form None count answers join = told_join p form count answers
told p form None count answers (line asks) = told_no None (codes "no E19 NoUser" ∷ []) []
told p form (Some s) count answers join = told_no (Some s) (codes "no E20 Joined" ∷ []) []
told p form (Some s) count answers (line asks) = told_asked p s answers asks

-- ---- lines, one after the other

-- a line to the user, and how many users the book has before it
pub record Own : Type 0 where
  pub wanted : Wanted
  pub count : ℕ

-- these are told, one for each line, and these calls of the store are made; the last state is left
abbrev pub Alone : Profile → Program → Option State → List Own → List StoreCall → List (List ℕ) → Option State → Type 0
Alone p form s [] calls texts last = (calls ≡ []) × (texts ≡ []) × (last ≡ s)
Alone p form s (asks ∷ lines) calls texts last =
    (own more : List StoreCall) × (text : List ℕ) × (rest : List (List ℕ))
    × ((told p form s asks.count (answers_in own) asks.wanted).calls ≡ own)
    × Contains (told p form s asks.count (answers_in own) asks.wanted).texts text
    × Alone p form (told p form s asks.count (answers_in own) asks.wanted).after lines more rest last
    × (calls ≡ own ++ more) × (texts ≡ text ∷ rest)
