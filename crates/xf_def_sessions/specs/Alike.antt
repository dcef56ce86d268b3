-- States of sessions that cannot be told apart: at rest, of one form, with the same data. What sessions rely on of the form machine is that they go alike.
use Rattle.std.specs.Prelude.{ℕ, ◌≡◌, ◌<◌, ◌^◌, List, Some, Ok}
use Rattle.xf_line.specs.declared.event.Event.{Event}
use Rattle.xf_store.specs.declared.answers.Answer.{Answer}
use Rattle.xf_def_machine.specs.Profile.{Profile}
use Rattle.xf_def_machine.specs.Program.{Program}
use Rattle.xf_def_machine.specs.State.{State}
use Rattle.xf_def_machine.specs.Start.{start}
use Rattle.xf_def_machine.specs.Step.{Posted, Outcome, accepted, refused, step}
use Rattle.xf_def_sessions.specs.Sessions.{Machine, IsSessionState, Session, snap_of}
use Rattle.xf_def_machine.specs.Carried.{adopted}

pub record AreAlike (p : Profile) (s t : State) : Type 0 where
  pub one : IsSessionState p s
  pub other : IsSessionState p t
  pub form : s.form ≡ t.form
  pub snap : snap_of s ≡ snap_of t

-- accepted of both, with the same notes, count and calls of the store, and such states again; or refused of both for the same reason
abbrev pub EndAlike : Profile → Outcome → Outcome → Type 0
EndAlike p (accepted s posted) (accepted t other) = AreAlike p s t × (posted ≡ other)
EndAlike p (refused why calls) (refused other_why other_calls) = (why ≡ other_why) × (calls ≡ other_calls)
EndAlike p one other = ⊥

-- of the forms that are read
pub record GoesAlike (m : Machine) : Type 0 where
  -- a start that is accepted leaves such a state
  pub starts : (bytes : List ℕ) (form : Program) → m.form_in bytes ≡ Some form → (answers : List Answer) (s : State) (posted : Posted)
      → start m.profile form answers ≡ accepted s posted → IsSessionState m.profile s
  -- an event ends alike: the numbers that it gives are below those that texts have in shapes, since few events were accepted
  pub steps : (bytes : List ℕ) (s t : State) → m.form_in bytes ≡ Some s.form → AreAlike m.profile s t → s.accepted < 2 ^ 62
      → (event : Event) (answers : List Answer) → EndAlike m.profile (step m.profile s event answers) (step m.profile t event answers)
  -- so does an adoption: it looks at the data alone
  pub adopts : (bytes : List ℕ) (form : Program) → m.form_in bytes ≡ Some form → (s t : State) → AreAlike m.profile s t → adopted m.profile s form ≡ adopted m.profile t form
  pub adopted_rests : (bytes : List ℕ) (form : Program) → m.form_in bytes ≡ Some form → (s t : State) → IsSessionState m.profile s
      → adopted m.profile s form ≡ Ok t → IsSessionState m.profile t

-- sessions that cannot be told apart but by what may be undone
pub record AreSameSessions (p : Profile) (s t : Session) : Type 0 where
  pub form : s.form ≡ t.form
  pub adoptions : s.adoptions ≡ t.adoptions
  pub state : AreAlike p s.state t.state
