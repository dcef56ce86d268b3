-- A run of a session: its first form starts, and then it takes items one after the other, each event with exactly the answers of the store that
-- are kept beside it. An undo leaves a state with given data, of which the numbers of nodes are left free: so this is a relation.
use Rattle.std.specs.Prelude.{ℕ, suc, ◌≡◌, List, [], ◌∷◌, Option, Some, None, option_map, Result, Ok, Err, bytes_eq, if◌then◌else◌}
use Rattle.xf_line.specs.declared.event.Event.{Event}
use Rattle.xf_store.specs.declared.answers.Answer.{Answer}
use Rattle.xf_def_machine.specs.Program.{Program}
use Rattle.xf_def_machine.specs.State.{State}
use Rattle.xf_def_machine.specs.Refusal.{Refused}
use Rattle.xf_def_machine.specs.Construct.{construct}
use Rattle.xf_def_machine.specs.Step.{step}
use Rattle.xf_def_machine.specs.Start.{start}
use Rattle.xf_def_machine.specs.Run.{if_exact}
use Rattle.xf_def_sessions.specs.Sessions.{Machine, Session, fresh_session}
use Rattle.xf_def_machine.specs.Carried.{AdoptFault, adopted}
use Rattle.xf_def_sessions.specs.History.{after_event, Undoes, Redoes}

-- what a session takes
pub data Item : Type 0 where
  -- an event from outside, with the answers of the store
  line : Event → List Answer → Item
  -- a form by its bytes, under which the session goes on
  adopt : List ℕ → Item
  undo : Item
  redo : Item

-- ---- the start

-- of this form, with exactly these answers
abbrev pub began_with : Machine → List ℕ → List Answer → Option Program → Option Session
began_with m bytes answers None = None
began_with m bytes answers (Some form) = option_map (fresh_session bytes 0) (if_exact answers (start m.profile form answers))

-- of the form that these bytes are
abbrev pub began : Machine → List ℕ → List Answer → Option Session
began m bytes answers = began_with m bytes answers (m.form_in bytes)

-- ---- an event

-- none where it is not accepted with exactly these answers
abbrev pub after_line : Machine → Session → Event → List Answer → Option Session
after_line m s event answers = option_map (after_event m s) (if_exact answers (step m.profile s.state event answers))

-- ---- an adoption

-- one adoption more; there is nothing to undo
abbrev pub session_with : Session → List ℕ → Result State AdoptFault → Option Session
session_with s bytes (Err fault) = None
session_with s bytes (Ok state) = Some (fresh_session bytes (suc s.adoptions) state)

-- of a form that is constructed by itself
abbrev pub adopted_form : Machine → Session → List ℕ → Program → Result State Refused → Option Session
adopted_form m s bytes form (Err refusal) = None
adopted_form m s bytes form (Ok first) = session_with s bytes (adopted m.profile s.state form)

abbrev pub adopted_some : Machine → Session → List ℕ → Option Program → Option Session
adopted_some m s bytes None = None
adopted_some m s bytes (Some form) = adopted_form m s bytes form (construct m.profile form)

-- of other bytes than the session has
abbrev pub after_adopt : Machine → Session → List ℕ → Option Session
after_adopt m s bytes = if bytes_eq bytes s.form then None else adopted_some m s bytes (m.form_in bytes)

-- ---- runs

-- what comes of one item
abbrev pub Accepts : Machine → Session → Item → Session → Type 0
Accepts m s (line event answers) t = after_line m s event answers ≡ Some t
Accepts m s (adopt bytes) t = after_adopt m s bytes ≡ Some t
Accepts m s undo t = Undoes m s t
Accepts m s redo t = Redoes m s t

-- of all of them
abbrev pub Goes : Machine → Session → List Item → Session → Type 0
Goes m s [] t = s ≡ t
Goes m s (item ∷ items) t = (next : Session) × Accepts m s item next × Goes m next items t

-- from the start of the form with these bytes and these answers
pub record Ran (m : Machine) (bytes : List ℕ) (answers : List Answer) (items : List Item) (last : Session) : Type 0 where
  pub first : Session
  pub begun : began m bytes answers ≡ Some first
  pub goes : Goes m first items last
