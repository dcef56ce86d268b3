-- What a run has written for the lines of its events as it ends, before any line for its status, and which calls of the store it made.
use Rattle.std.specs.Prelude.{ℕ, ◌≡◌, ◌<◌, ◌≤◌, ◌⊎◌, Bool, List, [], ◌∷◌, ◌++◌, length, take, drop, nat_lt, Contains, if◌then◌else◌}
use Rattle.xf_base.specs.Limits.{stream_limit}
use Rattle.xf_io.specs.Lines.{lines_of, ended_lines}
use Rattle.xf_store.specs.declared.call.StoreCall.{StoreCall}
use Rattle.xf_def_machine.specs.Profile.{Profile}
use Rattle.xf_def_machine.specs.State.{State}
use Rattle.xf_def_machine.specs.Replies.{reply, answers_in, Replies}

-- how the answers to the lines end
pub data Ending : Type 0 where
  -- all lines are answered
  done : Ending
  -- the events could not be read on, a reply could not be written, the disk failed
  read_fault : Ending
  sink_fault : Ending
  disk_fault : Ending
  -- the events have too many bytes
  too_much : Ending
  -- memory was wanting
  no_memory : Ending

-- the whole begins with the front
abbrev pub IsFront : {X : Type 0} → List X → List X → Type 0
IsFront front whole = (rest : List _) × (whole ≡ front ++ rest)

-- what a run begins with, and what of it is known as it ends
pub record Answering : Type 0 where
  -- whether evaluations are counted
  pub counts : Bool
  -- the state at first, and what is written before any reply: the notes of a start
  pub first : State
  pub before : List ℕ
  -- the bytes of the events, and those left
  pub events : List ℕ
  pub left : List ℕ
  -- what was written, and the calls of the store in lines
  pub written : List ℕ
  pub calls : List StoreCall

-- exactly the replies of these lines are written, and no call is made but theirs
abbrev pub Exactly : Profile → Answering → List (List ℕ) → Type 0
Exactly p a lines = (text : List ℕ) × (last : State) × Replies p a.counts a.first lines a.calls text last × (a.written ≡ a.before ++ text)

-- of the next line, where one is in work, these are the first calls that it makes and the first bytes of its reply, which is written when all
-- calls are made
abbrev pub HaveBegun : Profile → Bool → State → List (List ℕ) → List StoreCall → List ℕ → Type 0
HaveBegun p counts s [] begun part = (begun ≡ []) × (part ≡ [])
HaveBegun p counts s (line ∷ lines) begun part =
    (own : List StoreCall) × (text : List ℕ) × ((reply p counts s (answers_in own) line).calls ≡ own)
    × Contains (reply p counts s (answers_in own) line).texts text × IsFront begun own × IsFront part text × ((part ≡ []) ⊎ (begun ≡ own))

-- the replies of the first lines are written, and so much of the next one's; no calls are made but theirs and the first ones of the next line
abbrev pub AsFarAs : Profile → Answering → List (List ℕ) → List ℕ → Type 0
AsFarAs p a lines part =
    (count : ℕ) × (text : List ℕ) × (last : State) × (calls begun : List StoreCall) × Replies p a.counts a.first (take count lines) calls text last
    × HaveBegun p a.counts last (drop count lines) begun part × (a.calls ≡ calls ++ begun) × (a.written ≡ a.before ++ text ++ part)

-- the lines that are answered, were nothing to fail
abbrev pub answered_lines : List ℕ → List (List ℕ)
answered_lines events = if nat_lt stream_limit (length events) then ended_lines (take stream_limit events) else lines_of events

-- what a run that ends so has written and called
abbrev pub Answers : Profile → Ending → Answering → Type 0
Answers p done a = (a.left ≡ []) × (length a.events ≤ stream_limit) × Exactly p a (lines_of a.events)
Answers p read_fault a = (given : List ℕ) × (a.events ≡ given ++ a.left) × Exactly p a (ended_lines given)
Answers p sink_fault a = (IsFront a.written a.before × (a.calls ≡ [])) ⊎ ((part : List ℕ) × AsFarAs p a (answered_lines a.events) part)
Answers p disk_fault a = AsFarAs p a (answered_lines a.events) []
Answers p too_much a = (stream_limit < length a.events) × Exactly p a (ended_lines (take stream_limit a.events))
Answers p no_memory a = AsFarAs p a (answered_lines a.events) []
