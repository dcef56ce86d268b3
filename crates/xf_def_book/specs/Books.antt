-- A book: its users in the order in which they joined, and what is written for its lines, one after the other. A line is told to its user alone.
use Rattle.std.specs.Prelude.{ℕ, ◌≡◌, Bool, true, false, List, [], ◌∷◌, ◌++◌, map, length, codes, nat_lt, bytes_eq, Contains, Option, Some, None, Result, Ok, Err, ◌==◌, if◌then◌else◌}
use Rattle.std.specs.List.{list_all}
use Rattle.xf_base.specs.Limits.{line_limit}
use Rattle.xf_line.specs.declared.fault.LineFault.{LineFault}
use Rattle.xf_line.specs.declared.fault.LineFault.TheVariants.{NotJson, NotEvent, Memory}
use Rattle.xf_store.specs.declared.answers.Answer.{Answer}
use Rattle.xf_store.specs.declared.call.StoreCall.{StoreCall}
use Rattle.xf_def_machine.specs.Profile.{Profile}
use Rattle.xf_def_machine.specs.Program.{Program}
use Rattle.xf_def_machine.specs.State.{State}
use Rattle.xf_def_machine.specs.Replies.{is_blank, answers_in}
use Rattle.xf_def_book.specs.Lines.{BookLine, book_line_by}
use Rattle.xf_def_book.specs.Alone.{Told, told}

-- ---- books

pub record User : Type 0 where
  pub name : List ℕ
  pub state : State

abbrev pub Book : Type 0
Book = List User

-- the state of the user with this name, if there is one
abbrev pub state_in : Book → List ℕ → Option State
state_in [] name = None
state_in (user ∷ users) name = if bytes_eq user.name name then Some user.state else state_in users name

-- with this state of that user, who comes last where there was none
abbrev pub with_state : Book → List ℕ → State → Book
with_state [] name s = record { name = name; state = s } ∷ []
with_state (user ∷ users) name s = if bytes_eq user.name name then record user { state = s } ∷ users else user ∷ with_state users name s

-- where there is no state, nobody joined
abbrev pub with_after : Book → List ℕ → Option State → Book
with_after b name None = b
with_after b name (Some s) = with_state b name s

-- ---- what is written

-- these bytes before each line of a text, from here on, where this begins a line or not
abbrev pub fronted : List ℕ → Bool → List ℕ → List ℕ
fronted front begins [] = []
fronted front true (b ∷ bs) = front ++ b ∷ fronted front (b == 10) bs
fronted front false (b ∷ bs) = b ∷ fronted front (b == 10) bs

-- the user and a space before each line
abbrev pub to_user : List ℕ → List ℕ → List ℕ
to_user name text = fronted (name ++ codes " ") true text

-- of one line: each text that may be written for it, the book after it, and the calls of the store in it
pub record BookReply : Type 0 where
  pub texts : List (List ℕ)
  pub after : Book
  pub calls : List StoreCall

-- for nobody
abbrev pub without_user : Book → List ℕ → BookReply
without_user b text = record { texts = text ∷ []; after = b; calls = [] }

abbrev pub reply_told : Book → List ℕ → Told → BookReply
reply_told b name t = record { texts = map (to_user name) t.texts; after = with_after b name t.after; calls = t.calls }

abbrev pub reply_read : Profile → Program → Book → List Answer → Result BookLine LineFault → BookReply
reply_read p form b answers (Ok asks) = reply_told b asks.user (told p form (state_in b asks.user) (length b) answers asks.wanted)
reply_read p form b answers (Err NotJson) = without_user b (codes "no E2 NotJson\n")
reply_read p form b answers (Err NotEvent) = without_user b (codes "no E3 NotEvent\n")
reply_read p form b answers (Err Memory) = record { texts = []; after = b; calls = [] }

-- with the answers of the store to the calls of this line; a line of blanks has no reply
abbrev pub reply : Profile → Program → Book → List Answer → List ℕ → BookReply
reply p form b answers line =
    if nat_lt line_limit (length line) then without_user b (codes "no E1 LineTooLong\n")
    else if list_all is_blank line then without_user b []
    else reply_read p form b answers (book_line_by line)

-- these bytes are written for the lines, and these calls of the store are made, each line having the answers to its own; the last book is left
abbrev pub Replies : Profile → Program → Book → List (List ℕ) → List StoreCall → List ℕ → Book → Type 0
Replies p form b [] calls written last = (calls ≡ []) × (written ≡ []) × (last ≡ b)
Replies p form b (line ∷ lines) calls written last =
    (own more : List StoreCall) × (text rest : List ℕ) × ((reply p form b (answers_in own) line).calls ≡ own)
    × Contains (reply p form b (answers_in own) line).texts text × Replies p form (reply p form b (answers_in own) line).after lines more rest last
    × (calls ≡ own ++ more) × (written ≡ text ++ rest)
