-- A construction leaves its indexes placed and its controls as they are shown (XForms 1.1, section 4.2.1); so does an adoption, which drops what is
-- detached and takes the documents of the form again.
use Rattle.std.specs.Prelude.{ℕ, ◌≡◌, true, List, Ok}
use Rattle.xf_def_forest.specs.WellFormed.{HasTrees}
use Rattle.xf_law_forests.specs.Root.Roots.{AreAhead}
use Rattle.xf_def_machine.specs.AtRest.{are_placed}
use Rattle.xf_def_machine.specs.Carried.{Document, construct_over}
use Rattle.xf_def_machine.specs.Construct.{construct}
use Rattle.xf_def_machine.specs.Profile.{Profile}
use Rattle.xf_def_machine.specs.Program.{Program}
use Rattle.xf_def_machine.specs.State.{State}
use Rattle.xf_def_machine.specs.Step.{at_end}
use Rattle.xf_def_machine.specs.Update.{shown}
use Rattle.xf_law_sessions.specs.Outcome.Indexes.{IsNumbered}

-- the controls are those of now, and the indexes are placed
pub record IsShown (p : Profile) (s : State) : Type 0 where
  pub controls : shown p s ≡ Ok s.controls
  pub placed : are_placed p s ≡ true

abbrev pub ConstructedIsShown : Type 0
ConstructedIsShown = (p : Profile) (form : Program) (s : State) → IsNumbered form → construct p form ≡ Ok s → IsShown p s

-- where detached trees are dropped
abbrev pub EndIsShown : Type 0
EndIsShown = (p : Profile) (s : State) → IsNumbered s.form → HasTrees s.forest → AreAhead s.forest.nodes → IsShown p s → IsShown p (at_end p s)

abbrev pub AdoptedIsShown : Type 0
AdoptedIsShown = (p : Profile) (form : Program) (documents : List Document) (accepted : ℕ) (s : State) → IsNumbered form → construct_over p form documents ≡ Ok s
    → HasTrees s.forest → AreAhead s.forest.nodes → IsShown p (record (at_end p s) { form = form; accepted = accepted })

pub record ConstructionLaws : Type 0 where
  pub constructed : ConstructedIsShown
  pub ended : EndIsShown
  pub adopted : AdoptedIsShown
