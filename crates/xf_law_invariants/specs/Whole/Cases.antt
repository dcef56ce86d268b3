-- Each switch has one of its cases selected (XForms 1.1, section 9.2) after each accepted event and each start, where each switch of the form has a case and
-- each toggle names one of a switch.
use Rattle.std.specs.Prelude.{ℕ, ◌≡◌, ◌<◌, true, List, length, nat_lt, get_or, Some}
use Rattle.std.specs.List.{list_all}
use Rattle.xf_line.specs.declared.event.Event.{Event}
use Rattle.xf_store.specs.declared.answers.Answer.{Answer}
use Rattle.xf_def_ui.specs.Cases.{cases_of, place_of_case}
use Rattle.xf_def_ui.specs.Elements.{element_at}
use Rattle.xf_def_machine.specs.Acting.{act_in}
use Rattle.xf_def_machine.specs.AtRest.{are_cases}
use Rattle.xf_def_machine.specs.Choose.{switch_number}
use Rattle.xf_def_machine.specs.Profile.{Profile}
use Rattle.xf_def_machine.specs.Program.{Act, Program, role_at, toggle}
use Rattle.xf_def_machine.specs.Start.{start}
use Rattle.xf_def_machine.specs.State.{State}
use Rattle.xf_def_machine.specs.Step.{Posted, accepted, step}
use Rattle.xf_law_machine.specs.Rest.Rests.{is_filled}

-- an action of the form toggles this element
pub record IsToggled (form : Program) (one : ℕ) : Type 0 where
  pub element : ℕ
  pub act : Act
  pub is : act_in (role_at form element) ≡ Some act
  pub toggles : act.work ≡ toggle one

-- the element is a case of the switch above it, which has its place among the switches as its number
pub record IsCaseIn (form : Program) (one parent : ℕ) : Type 0 where
  pub switch : get_or form.interface.switches (switch_number (element_at form.interface parent).sort) 0 ≡ parent
  pub place : place_of_case form.interface parent one < length (cases_of form.interface parent)

pub record HasCases (form : Program) : Type 0 where
  -- no switch is without a case
  pub some : list_all (λ n. nat_lt 0 (length (cases_of form.interface n))) form.interface.switches ≡ true
  pub toggled : (one parent : ℕ) → IsToggled form one → (element_at form.interface one).parent ≡ Some parent → IsCaseIn form one parent

abbrev pub StepsKeepCases : Type 0
StepsKeepCases = (p : Profile) (event : Event) (answers : List Answer) (s t : State) (posted : Posted) → is_filled s.form ≡ true → HasCases s.form → are_cases s ≡ true
    → step p s event answers ≡ accepted t posted → are_cases t ≡ true

abbrev pub StartsHaveCases : Type 0
StartsHaveCases = (p : Profile) (form : Program) (answers : List Answer) (s : State) (posted : Posted) → is_filled form ≡ true → HasCases form
    → start p form answers ≡ accepted s posted → are_cases s ≡ true

pub record CaseLaws : Type 0 where
  pub steps : StepsKeepCases
  pub starts : StartsHaveCases
