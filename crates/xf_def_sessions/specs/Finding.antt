-- Opening finds the session: an image that stands for items opens, and whatever it opens to goes on as the session that took them.
use Rattle.std.specs.Prelude.{ℕ, ◌≡◌, ◌<◌, ◌^◌, List, length}
use Rattle.xf_disk.specs.Image.{Image}
use Rattle.xf_store.specs.declared.answers.Answer.{Answer}
use Rattle.xf_def_sessions.specs.Sessions.{Machine, IsSessionState, Session}
use Rattle.xf_def_sessions.specs.Runs.{Item, Ran}
use Rattle.xf_def_sessions.specs.Images.{StandsAt}
use Rattle.xf_def_sessions.specs.Opening.{Opened, opened, Opens}
use Rattle.xf_def_sessions.specs.Counts.{FormsAreFilled}
use Rattle.xf_def_sessions.specs.Alike.{GoesAlike, AreSameSessions}

-- more items are not taken
abbrev pub AreFew : List Item → Type 0
AreFew items = length items < 2 ^ 62

-- a session comes to states at rest alone, whose nodes have small numbers
abbrev pub RunsRest : Type 0
RunsRest = (m : Machine) (bytes : List ℕ) (answers : List Answer) (items : List Item) (last : Session)
    → FormsAreFilled m → GoesAlike m → AreFew items → Ran m bytes answers items last → IsSessionState m.profile last.state

-- an opening that ends with such a session, of which nothing may be undone yet
abbrev pub FindsIn : Machine → Session → Opened → Type 0
FindsIn m last result = (found : Session) × (result ≡ opened found) × AreSameSessions m.profile found last

-- it opens
abbrev pub StandingOpens : Type 0
StandingOpens = (m : Machine) (bytes : List ℕ) (answers : List Answer) (items : List Item) (last : Session) (image : Image)
    → FormsAreFilled m → GoesAlike m → AreFew items → StandsAt m bytes answers items last image
    → (result : Opened) × Opens m.profile last.form last.state.form image result × FindsIn m last result

-- and to nothing else
abbrev pub OpeningFinds : Type 0
OpeningFinds = (m : Machine) (bytes : List ℕ) (answers : List Answer) (items : List Item) (last : Session) (image : Image) (result : Opened)
    → FormsAreFilled m → GoesAlike m → AreFew items → StandsAt m bytes answers items last image
    → Opens m.profile last.form last.state.form image result → FindsIn m last result

pub record FindingLaws : Type 0 where
  pub rests : RunsRest
  pub opens : StandingOpens
  pub finds : OpeningFinds
