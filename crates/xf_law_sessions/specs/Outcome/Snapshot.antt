-- What a session keeps of a state tells no numbers of nodes: states that are the same but for these have one snapshot, and a form is adopted alike
-- over both.
use Rattle.std.specs.Prelude.{◌≡◌, map}
use Rattle.xf_def_machine.specs.Carried.{adopted}
use Rattle.xf_def_machine.specs.Profile.{Profile}
use Rattle.xf_def_machine.specs.Program.{Program}
use Rattle.xf_def_machine.specs.Same.{IsSame}
use Rattle.xf_def_machine.specs.State.{State}
use Rattle.xf_law_sessions.specs.Outcome.Contents.{trees_of}

-- of one form, with one snapshot
pub record HaveSameSnapshot (s t : State) : Type 0 where
  pub form : s.form ≡ t.form
  pub trees : trees_of s ≡ trees_of t
  pub indexes : map (λ i. i.index) s.indexes ≡ map (λ i. i.index) t.indexes
  pub cases : s.cases ≡ t.cases
  pub accepted : s.accepted ≡ t.accepted

abbrev pub SnapshotStays : Type 0
SnapshotStays = (s t : State) → IsSame s t → HaveSameSnapshot s t

-- an adoption looks at the data alone
abbrev pub AdoptedAlike : Type 0
AdoptedAlike = (p : Profile) (form : Program) (s t : State) → IsSame s t → adopted p s form ≡ adopted p t form

pub record SnapshotLaws : Type 0 where
  pub stays : SnapshotStays
  pub adopted : AdoptedAlike
