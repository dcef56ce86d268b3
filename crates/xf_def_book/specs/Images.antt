-- What two slots stand for as a book of sessions of a form: a list of lines that were accepted, each with the answers of the store. The base lists the users
-- on the way, each with a snapshot, and the entries are the lines since.
use Rattle.std.specs.Prelude.{ℕ, zero, suc, ◌≡◌, List, [], ◌∷◌, ◌++◌, length, take, drop, nat_le, bytes_eq, Option, Some, None, option_and_then, option_map, Result, Ok, Err, ◌==◌, if◌then◌else◌}
use Rattle.xf_disk.specs.Image.{Image}
use Rattle.xf_line.specs.declared.event.Event.{Event}
use Rattle.xf_line.specs.declared.event.Asked.TheVariants as asked
use Rattle.xf_line.specs.declared.fault.LineFault.{LineFault}
use Rattle.xf_store.specs.declared.answers.Answer.{Answer}
use Rattle.xf_journal.specs.declared.entry.Accepted.{Accepted}
use Rattle.xf_journal.specs.Held.{Log, held}
use Rattle.xf_snap.specs.declared.snap.Snap.{Snap}
use Rattle.xf_snap.specs.Reading.{Front, ◌>>=◌, byte_at, four_at, several, ended, snap_in}
use Rattle.xf_def_machine.specs.Profile.{Profile}
use Rattle.xf_def_machine.specs.Program.{Program}
use Rattle.xf_def_machine.specs.State.{State}
use Rattle.xf_def_machine.specs.Start.{start}
use Rattle.xf_def_machine.specs.Step.{step}
use Rattle.xf_def_machine.specs.Run.{Item as Own, line as own_line, if_exact, run}
use Rattle.xf_def_sessions.specs.Sessions.{Machine, snap_of}
use Rattle.xf_def_book.specs.Lines.{BookLine, Wanted, join, line, book_line_by}
use Rattle.xf_def_book.specs.Alone.{user_limit, passes_share}
use Rattle.xf_def_book.specs.Books.{Book, state_in, with_state}

-- ---- items

-- what a book takes
pub data Item : Type 0 where
  -- a user, by the name, with the answers of the store in the start
  joined : List ℕ → List Answer → Item
  -- an event of a user, with those in the event
  event : List ℕ → Event → List Answer → Item

abbrev pub item_wanted : List ℕ → Wanted → List Answer → Option Item
item_wanted user join answers = Some (joined user answers)
item_wanted user (line (asked.Event e)) answers = Some (event user e answers)
item_wanted user (line asked.Show) answers = None

abbrev pub item_by : Result BookLine LineFault → List Answer → Option Item
item_by (Ok asks) answers = item_wanted asks.user asks.wanted answers
item_by (Err fault) answers = None

-- an entry has the whole line of the book
abbrev pub item_of : Accepted → Option Item
item_of entry = item_by (book_line_by entry.line) entry.answers

abbrev pub items_of : List Accepted → Option (List Item)
items_of [] = Some []
items_of (entry ∷ entries) = option_and_then (λ item. option_map (λ items. item ∷ items) (items_of entries)) (item_of entry)

-- ---- what a book takes, one after the other

-- a state that is no more than a user may have
abbrev pub if_within : State → Option State
if_within s = if passes_share s then None else Some s

-- of someone who is not in the book, while it has room
abbrev pub joined_state : Profile → Program → Book → Option State → List Answer → Option State
joined_state p form b (Some s) answers = None
joined_state p form b None answers = if length b == user_limit then None else option_and_then if_within (if_exact answers (start p form answers))

abbrev pub state_after : Profile → Option State → Event → List Answer → Option State
state_after p None e answers = None
state_after p (Some s) e answers = option_and_then if_within (if_exact answers (step p s e answers))

-- none where it is not accepted with exactly these answers
abbrev pub take_item : Profile → Program → Book → Item → Option Book
take_item p form b (joined user answers) = option_map (with_state b user) (joined_state p form b (state_in b user) answers)
take_item p form b (event user e answers) = option_map (with_state b user) (state_after p (state_in b user) e answers)

abbrev pub taken : Profile → Program → Option Book → List Item → Option Book
taken p form b [] = b
taken p form None (item ∷ items) = None
taken p form (Some b) (item ∷ items) = taken p form (take_item p form b item) items

-- ---- each user's part

-- the names of the users that joined, in order
abbrev pub names_in : List Item → List (List ℕ)
names_in [] = []
names_in (joined user answers ∷ items) = user ∷ names_in items
names_in (event user e answers ∷ items) = names_in items

-- the answers of the user's start, the first join of that name
abbrev pub start_of : List ℕ → List Item → List Answer
start_of name [] = []
start_of name (joined user answers ∷ items) = if bytes_eq user name then answers else start_of name items
start_of name (event user e answers ∷ items) = start_of name items

-- the events of the user
abbrev pub own_items : List ℕ → List Item → List Own
own_items name [] = []
own_items name (joined user answers ∷ items) = own_items name items
own_items name (event user e answers ∷ items) = if bytes_eq user name then own_line e answers ∷ own_items name items else own_items name items

-- the session of the user: a run of these alone
abbrev pub own_run : Profile → Program → List Item → List ℕ → Option State
own_run p form items name = run p form (start_of name items) (own_items name items)

-- ---- the base

-- a user as the base keeps one
pub record Member : Type 0 where
  pub name : List ℕ
  pub snap : Snap

-- the users of such items: each with the data of the user's own run
abbrev pub member_of : Profile → Program → List Item → List ℕ → Option Member
member_of p form items name = option_map (λ s. record { name = name; snap = snap_of s }) (own_run p form items name)

-- each of them, where each has a run
abbrev pub members_of : Profile → Program → List Item → List (List ℕ) → Option (List Member)
members_of p form items [] = Some []
members_of p form items (name ∷ names) =
    option_and_then (λ member. option_map (λ members. member ∷ members) (members_of p form items names)) (member_of p form items name)

abbrev pub users_of : Profile → Program → List Item → Option (List Member)
users_of p form items = members_of p form items (names_in items)

-- so many bytes, with those behind them
abbrev pub part_at : ℕ → List ℕ → Front (List ℕ)
part_at size bytes = if nat_le size (length bytes) then Some (take size bytes, drop size bytes) else None

-- the user with this name, where the bytes are a snapshot
abbrev pub member_as : List ℕ → Option Snap → List ℕ → Front Member
member_as name None rest = None
member_as name (Some snap) rest = Some (record { name = name; snap = snap }, rest)

-- a name behind its length of one byte, and a snapshot behind its length of four
unfoldable pub member_at : List ℕ → Front Member
member_at bytes = do
  size ← byte_at bytes
  name ← part_at size.0 size.1
  length_of ← four_at name.1
  part ← part_at length_of.0 length_of.1
  member_as name.0 (snap_in part.0) part.1

-- the users behind their number, and nothing behind them
unfoldable pub members_at : List ℕ → Option (List Member)
members_at bytes = do
  count ← byte_at bytes
  members ← several member_at count.0 count.1
  ended members.0 members.1

-- the users that a base lists, where it is one of a book
abbrev pub members_at_base : List ℕ → Option (List Member)
members_at_base (suc (suc zero) ∷ bytes) = members_at bytes
members_at_base base = None

-- ---- journals and images

-- a journal stands for what a book of this form took, at the end of which it is this book
pub record LogStands (m : Machine) (bytes : List ℕ) (items : List Item) (last : Book) (log : Log) : Type 0 where
  pub form : Program
  pub formed : m.form_in bytes ≡ Some form
  -- all of it was accepted in its turn
  pub accepted : taken m.profile form (Some []) items ≡ Some last
  pub before : List Item
  pub after : List Item
  pub split : items ≡ before ++ after
  pub whole : log.cut ≡ None
  pub form_bytes : log.kept.form ≡ bytes
  pub adoptions : log.kept.adoptions ≡ 0
  pub members : List Member
  pub users : users_of m.profile form before ≡ Some members
  pub base : members_at_base log.kept.base ≡ Some members
  pub entries : items_of log.kept.entries ≡ Some after

-- the slots hold such a journal
abbrev pub StandsAt : Machine → List ℕ → List Item → Book → Image → Type 0
StandsAt m bytes items last image = (log : Log) × (held image ≡ Ok (Some log)) × LogStands m bytes items last log

abbrev pub Stands : Machine → List ℕ → List Item → Image → Type 0
Stands m bytes items image = (last : Book) × StandsAt m bytes items last image

-- two closed slots stand for no book
abbrev pub StandsForNone : Image → Type 0
StandsForNone image = held image ≡ Ok None
