-- What an adoption leaves, but for its trees and what models keep: nothing is due and nothing is marked, no tree is detached, each switch has one of its
-- cases, the indexes are placed, and the controls are those of now.
use Rattle.std.specs.Prelude.{◌≡◌, true, false, List, Ok}
use Rattle.std.specs.List.{list_any}
use Rattle.xf_def_machine.specs.AtRest.{is_empty_text, are_cases}
use Rattle.xf_def_machine.specs.Carried.{construct_over, Document, adopted}
use Rattle.xf_def_machine.specs.Profile.{Profile}
use Rattle.xf_def_machine.specs.Program.{Program}
use Rattle.xf_def_machine.specs.State.{State}
use Rattle.xf_def_forest.specs.WellFormed.{HasTrees}
use Rattle.xf_law_forests.specs.Root.Roots.{AreAhead}
use Rattle.xf_law_sessions.specs.Outcome.Indexes.{IsNumbered}
use Rattle.xf_law_machine.specs.Rest.Rests.{Rests, is_filled}
use Rattle.xf_law_sessions.specs.Shown.Constructed.{IsShown}
use Rattle.xf_law_invariants.specs.Whole.Cases.{HasCases}

-- no text of the data that are carried is empty
abbrev pub AdoptionRests : Type 0
AdoptionRests = (p : Profile) (s : State) (form : Program) (t : State) → is_filled form ≡ true → list_any is_empty_text s.forest.nodes ≡ false → adopted p s form ≡ Ok t → Rests p t

abbrev pub AdoptionHasCases : Type 0
AdoptionHasCases = (p : Profile) (s : State) (form : Program) (t : State) → HasCases form → adopted p s form ≡ Ok t → are_cases t ≡ true

-- where constructions make trees
abbrev pub MakesTrees : Profile → Program → Type 0
MakesTrees p form = (documents : List Document) (u : State) → construct_over p form documents ≡ Ok u → HasTrees u.forest × AreAhead u.forest.nodes

abbrev pub AdoptionIsShown : Type 0
AdoptionIsShown = (p : Profile) (s : State) (form : Program) (t : State) → IsNumbered form → MakesTrees p form → adopted p s form ≡ Ok t → IsShown p t

pub record AdoptionLaws : Type 0 where
  pub rests : AdoptionRests
  pub cases : AdoptionHasCases
  pub shown : AdoptionIsShown
