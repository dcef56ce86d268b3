-- What may be undone: the data before each accepted event, the last 64 of them, where the form asks for it; and what may be done again.
use Rattle.std.specs.Prelude.{ℕ, suc, ◌≡◌, ◌-◌, Bool, true, false, List, [], ◌∷◌, ◌++◌, length, drop}
use Rattle.xf_snap.specs.declared.snap.Snap.{Snap}
use Rattle.xf_def_machine.specs.Profile.{Profile}
use Rattle.xf_def_machine.specs.State.{State}
use Rattle.xf_def_sessions.specs.Sessions.{Machine, IsSessionState, Session, snap_of}

-- how many are kept
abbrev pub history_limit : ℕ
history_limit = 64

-- with one more, the first being dropped where there are too many
abbrev pub pushed : List Snap → Snap → List Snap
pushed snaps snap = drop (suc (length snaps) - history_limit) (snaps ++ snap ∷ [])

-- behind an accepted event
abbrev pub past_by : Bool → List Snap → Snap → List Snap
past_by true past before = pushed past before
past_by false past before = []

-- the session after an event that left this state
abbrev pub after_event : Machine → Session → State → Session
after_event m s t = record s { state = t; past = past_by (m.keeps_past s.form) s.past (snap_of s.state); future = [] }

-- a state at rest of the same form with these data, but for the number of accepted events, which is one more than it was
pub record IsBack (p : Profile) (s : State) (kept : Snap) (t : State) : Type 0 where
  pub stands : IsSessionState p t
  pub form : t.form ≡ s.form
  pub snap : snap_of t ≡ record kept { accepted = suc s.accepted }

-- the last of the past comes back, and the data before go behind the future
pub record Undoes (m : Machine) (s t : Session) : Type 0 where
  pub before : List Snap
  pub back : Snap
  pub past : s.past ≡ before ++ back ∷ []
  pub state : IsBack m.profile s.state back t.state
  pub form : t.form ≡ s.form
  pub adoptions : t.adoptions ≡ s.adoptions
  pub past_after : t.past ≡ before
  pub future_after : t.future ≡ s.future ++ snap_of s.state ∷ []

-- the last of the future comes back, and the data before go behind the past
pub record Redoes (m : Machine) (s t : Session) : Type 0 where
  pub before : List Snap
  pub back : Snap
  pub future : s.future ≡ before ++ back ∷ []
  pub state : IsBack m.profile s.state back t.state
  pub form : t.form ≡ s.form
  pub adoptions : t.adoptions ≡ s.adoptions
  pub future_after : t.future ≡ before
  pub past_after : t.past ≡ s.past ++ snap_of s.state ∷ []
