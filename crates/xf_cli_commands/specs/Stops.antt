-- What the two slots keep at each moment of a run, and as it ends, however runs were stopped before.
use Rattle.std.specs.Prelude.{ℕ, ◌≡◌, ◌⊎◌, List, [], ◌∷◌, ◌++◌}
use Rattle.xf_disk.specs.Image.{Image}
use Rattle.xf_line.specs.declared.event.Event.{Event}
use Rattle.xf_store.specs.declared.answers.Answer.{Answer}
use Rattle.xf_def_machine.specs.Written.{IsFront}
use Rattle.xf_def_sessions.specs.Sessions.{Session}
use Rattle.xf_def_sessions.specs.Runs.{Item, line, Ran}
use Rattle.xf_def_sessions.specs.Usual.{usual}
use Rattle.xf_session.specs.Keeping.{Keeps, KeepsOne, KeepsNoItem}
use Rattle.xf_cli_commands.specs.Course.{Course}
use Rattle.xf_cli_commands.specs.Device.{Device, AtFirst, AtEachMoment, AtLast}

-- the same items, or one event more: one that was in flight as an earlier run stopped
abbrev pub IsNext : List Item → List Item → Type 0
IsNext items next = (next ≡ items) ⊎ ((event : Event) × (given : List Answer) × (next ≡ items ++ line event given ∷ []))

-- ---- a run that takes events

-- the image keeps these items, and some first ones of others
abbrev pub KeepsFront : List ℕ → List Answer → List Item → List Item → Image → Type 0
KeepsFront form answers items more image = (front : List Item) × IsFront front more × Keeps form answers (items ++ front) image

-- a session of the form with these bytes that has these items as the run begins takes those of its lines: no image lacks one that was kept, or has one
-- in part
pub record GoesOn (device : Device) (was : Image → Type 0) (form : List ℕ) (answers : List Answer) (items : List Item) (last : Course) : Type 0 where
  -- the event in flight stands last, where it stands
  pub each_moment : AtEachMoment device (λ image. was image ⊎ KeepsFront form answers items (last.items ++ last.in_flight) image)
  pub left : AtLast device (KeepsOne form answers (items ++ last.items) (items ++ (last.items ++ last.in_flight)))
  -- the state in which the lines end is that of the run that took the items
  pub end : Session
  pub ran : Ran usual form answers (items ++ last.items) end
  pub state : end.state ≡ last.state

-- each image keeps the items of a session as the run begins, or some keep one event more: the session goes on from the one or from the other
abbrev pub GoesOnFrom : Device → List ℕ → Course → Type 0
GoesOnFrom device form last =
    (answers : List Answer) (items next : List Item) → IsNext items next → AtFirst device (KeepsOne form answers items next)
    → (found : List Item) × ((found ≡ items) ⊎ (found ≡ next)) × GoesOn device (KeepsOne form answers items next) form answers found last

-- each image keeps no session as the run begins, or one that has only started: so does the run
abbrev pub GoesOnFresh : Device → List ℕ → Course → Type 0
GoesOnFresh device form last = AtFirst device (KeepsNoItem form) → (answers : List Answer) × GoesOn device (KeepsNoItem form) form answers [] last

pub record IsKept (device : Device) (form : List ℕ) (last : Course) : Type 0 where
  pub session : GoesOnFrom device form last
  pub fresh : GoesOnFresh device form last

-- ---- a run that stops before its lines

-- as the run begins and at each moment an image keeps what may be kept so
pub record IsAsBefore (device : Device) (form : List ℕ) : Type 0 where
  pub session : (answers : List Answer) (items next : List Item) → IsNext items next → AtFirst device (KeepsOne form answers items next)
      → AtEachMoment device (KeepsOne form answers items next)
  pub fresh : AtFirst device (KeepsNoItem form) → AtEachMoment device (KeepsNoItem form)
