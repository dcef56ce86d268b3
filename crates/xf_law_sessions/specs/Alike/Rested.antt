-- What sessions rely on of the form machine, that states which cannot be told apart go alike, comes down to one thing: what a start, an event and an
-- adoption leave is at rest.
use Rattle.std.specs.Prelude.{ℕ, ◌≡◌, ◌≤◌, ◌^◌, List, Some, Ok}
use Rattle.xf_line.specs.declared.event.Event.{Event}
use Rattle.xf_store.specs.declared.answers.Answer.{Answer}
use Rattle.xf_def_machine.specs.AtRest.{IsAtRest}
use Rattle.xf_def_machine.specs.Carried.{adopted}
use Rattle.xf_def_machine.specs.Program.{Program}
use Rattle.xf_def_machine.specs.Start.{start}
use Rattle.xf_def_machine.specs.State.{State}
use Rattle.xf_def_machine.specs.Step.{Posted, accepted, step}
use Rattle.xf_def_sessions.specs.Alike.{GoesAlike}
use Rattle.xf_def_sessions.specs.Counts.{FormsAreFilled}
use Rattle.xf_def_sessions.specs.Sessions.{Machine, IsSessionState}
use Rattle.xf_def_sessions.specs.Usual.{usual}
use Rattle.xf_law_sessions.specs.Outcome.Indexes.{IsNumbered}

-- the forms that are read are numbered in document order and have no empty texts, and an event gives few numbers
pub record ReadsForms (m : Machine) : Type 0 where
  pub numbered : (bytes : List ℕ) (form : Program) → m.form_in bytes ≡ Some form → IsNumbered form
  pub filled : FormsAreFilled m
  pub made : m.profile.made ≤ 2 ^ 34

-- rest whole: what is left is at rest
pub record EndsAtRest (m : Machine) : Type 0 where
  pub starts : (bytes : List ℕ) (form : Program) → m.form_in bytes ≡ Some form → (answers : List Answer) (s : State) (posted : Posted)
      → start m.profile form answers ≡ accepted s posted → IsSessionState m.profile s
  pub steps : (bytes : List ℕ) (event : Event) (answers : List Answer) (s t : State) (posted : Posted) → m.form_in bytes ≡ Some s.form → IsSessionState m.profile s
      → step m.profile s event answers ≡ accepted t posted → IsAtRest m.profile t
  pub adopted : (bytes : List ℕ) (form : Program) → m.form_in bytes ≡ Some form → (s t : State) → IsSessionState m.profile s
      → adopted m.profile s form ≡ Ok t → IsSessionState m.profile t

abbrev pub AlikeByRest : Type 0
AlikeByRest = (m : Machine) → ReadsForms m → EndsAtRest m → GoesAlike m

pub record AlikeLaws : Type 0 where
  pub by_rest : AlikeByRest
  -- the forms of this processor are so
  pub usual_reads : ReadsForms usual
