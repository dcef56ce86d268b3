-- States at rest of one form with the same data are the same but for the numbers of nodes, so that nothing that comes after tells them apart.
use Rattle.std.specs.Prelude.{ℕ, ◌≡◌, ◌+◌}
use Rattle.xf_def_machine.specs.AtRest.{IsAtRest}
use Rattle.xf_def_machine.specs.Carried.{adopted}
use Rattle.xf_def_machine.specs.ControlText.{state_text}
use Rattle.xf_def_machine.specs.Profile.{Profile}
use Rattle.xf_def_machine.specs.Program.{Program}
use Rattle.xf_def_machine.specs.State.{State}
use Rattle.xf_law_sessions.specs.Outcome.Events.{AreSameFor, Lines, made_by, AllEndSame}
use Rattle.xf_law_sessions.specs.Outcome.Indexes.{IsNumbered}
use Rattle.xf_law_sessions.specs.Outcome.Numbers.{HasRoomFor}
use Rattle.xf_law_sessions.specs.Outcome.Snapshot.{HaveSameSnapshot}

-- two states at rest that no session tells apart, where so many new nodes have room
pub record AreOneAtRest (p : Profile) (made : ℕ) (s t : State) : Type 0 where
  pub numbered : IsNumbered s.form
  pub snapshot : HaveSameSnapshot s t
  pub room : HasRoomFor made s.forest
  pub other_room : HasRoomFor made t.forest
  pub rest : IsAtRest p s
  pub other_rest : IsAtRest p t

abbrev pub SameDataAreSame : Type 0
SameDataAreSame = (p : Profile) (made : ℕ) (s t : State) → AreOneAtRest p made s t → AreSameFor made s t

-- all events that come have one outcome, whatever they are
abbrev pub SameDataGo : Type 0
SameDataGo = (p : Profile) (made : ℕ) (lines : Lines) (s t : State) → AreOneAtRest p (made_by p lines + made) s t → AllEndSame p made lines s t

-- what is shown of both is one text
abbrev pub SameDataShow : Type 0
SameDataShow = (p : Profile) (made : ℕ) (s t : State) → AreOneAtRest p made s t → state_text p t ≡ state_text p s

-- a form is adopted alike over both, however many numbers were given
abbrev pub SameDataAdopt : Type 0
SameDataAdopt = (p : Profile) (form : Program) (s t : State) → HaveSameSnapshot s t → IsAtRest p s → IsAtRest p t → adopted p s form ≡ adopted p t form

pub record DataLaws : Type 0 where
  pub same : SameDataAreSame
  pub go : SameDataGo
  pub show : SameDataShow
  pub adopt : SameDataAdopt
