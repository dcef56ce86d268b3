-- How many numbers nodes have been given (a start and an adoption): at most those of the nodes that a construction makes, one root for each instance, and
-- those that the events of a start make.
use Rattle.std.specs.Prelude.{◌≡◌, ◌+◌, ◌^◌, ◌≤◌, true, List, length, Ok}
use Rattle.xf_store.specs.declared.answers.Answer.{Answer}
use Rattle.xf_def_machine.specs.Carried.{adopted}
use Rattle.xf_def_machine.specs.Profile.{Profile}
use Rattle.xf_def_machine.specs.Program.{Program}
use Rattle.xf_def_machine.specs.Start.{start}
use Rattle.xf_def_machine.specs.State.{State}
use Rattle.xf_def_machine.specs.Step.{Posted, accepted}
use Rattle.xf_def_sessions.specs.Sessions.{HasRoom}
use Rattle.xf_law_machine.specs.Rest.Rests.{is_filled}
use Rattle.xf_law_sessions.specs.Step.Steps.{IsOfForm}

abbrev pub StartGives : Type 0
StartGives = (p : Profile) (form : Program) (answers : List Answer) (s : State) (posted : Posted) → IsOfForm form → is_filled form ≡ true
    → start p form answers ≡ accepted s posted → s.forest.next ≤ length form.documents + (p.made + p.made)

-- the roots are as many as the instances of the form that is adopted
abbrev pub AdoptionGives : Type 0
AdoptionGives = (p : Profile) (s : State) (form : Program) (t : State) → IsOfForm form → adopted p s form ≡ Ok t → t.forest.next ≤ length form.instances + p.made

-- so there is room, where an event makes as many nodes as one of this processor may, and there are no more instances than a form may have
abbrev pub StartHasRoom : Type 0
StartHasRoom = (p : Profile) (form : Program) (answers : List Answer) (s : State) (posted : Posted) → IsOfForm form → is_filled form ≡ true → p.made ≤ 2 ^ 32
    → length form.documents ≤ 2 ^ 32 → start p form answers ≡ accepted s posted → HasRoom s

abbrev pub AdoptionHasRoom : Type 0
AdoptionHasRoom = (p : Profile) (s : State) (form : Program) (t : State) → IsOfForm form → p.made ≤ 2 ^ 32 → length form.instances ≤ 2 ^ 32 → adopted p s form ≡ Ok t → HasRoom t

pub record RoomLaws : Type 0 where
  pub start : StartGives
  pub adopted : AdoptionGives
  pub start_room : StartHasRoom
  pub adopted_room : AdoptionHasRoom
