-- What of a state at rest (XForms 1.1, section 4.3) comes of what the machine does, whatever the form asks of it: after each event that is
-- accepted nothing is due and nothing is marked, no tree is detached, and the limits hold that no change may pass by itself.
use Rattle.std.specs.Prelude.{ℕ, suc, ◌≡◌, Bool, true, false, not, ◌&&◌, List, [], length, Some, Ok, nat_le, ◌==◌}
use Rattle.std.specs.List.{list_any, list_all}
use Rattle.xf_line.specs.declared.event.Event.{Event}
use Rattle.xf_store.specs.declared.answers.Answer.{Answer}
use Rattle.xf_def_forest.specs.declared.content.Content.{Content}
use Rattle.xf_def_forest.specs.Forest.{is_text, own_text}
use Rattle.xf_def_forest.specs.Limits.{has_long_text}
use Rattle.xf_def_forest.specs.Changes.{in_instances}
use Rattle.xf_def_model.specs.Pertinent.{AllOf}
use Rattle.xf_def_machine.specs.Profile.{Profile}
use Rattle.xf_def_machine.specs.Program.{Program}
use Rattle.xf_def_machine.specs.State.{Model, State}
use Rattle.xf_def_machine.specs.Behave.{asked_by_all}
use Rattle.xf_def_machine.specs.Update.{is_due}
use Rattle.xf_def_machine.specs.Step.{Posted, accepted, fresh, changed_by, step}
use Rattle.xf_def_machine.specs.Start.{start}
use Rattle.xf_def_machine.specs.Run.{Item, run}
use Rattle.xf_def_machine.specs.AtRest.{is_empty_text, IsAtRest}
use Rattle.xf_law_machine.specs.Behaviours.Chain.{AreChained}

-- ---- within an event

pub record IsUnmarked (m : Model) : Type 0 where
  pub texts : m.texts ≡ []
  pub lists : m.lists ≡ []

-- what is marked is due to be recalculated
abbrev pub IsMarkedDue : Model → Type 0
IsMarkedDue m = m.flags.recalculate ≡ false → IsUnmarked m

-- what is so after each change
pub record Within (p : Profile) (s : State) : Type 0 where
  pub chained : AreChained s
  pub marked : AllOf IsMarkedDue s.models
  pub model_count : length s.models ≡ length s.form.model_elements
  pub edges : nat_le (asked_by_all s) p.edges ≡ true
  pub filled : list_any is_empty_text s.forest.nodes ≡ false
  pub texts : has_long_text p.bounds.limits.text s.forest.nodes ≡ false

-- ---- between events

-- these are conditions of a state at rest
pub record Rests (p : Profile) (s : State) : Type 0 where
  pub is_due : is_due s ≡ false
  pub unmarked : AllOf IsUnmarked s.models
  pub model_count : length s.models ≡ length s.form.model_elements
  pub edges : nat_le (asked_by_all s) p.edges ≡ true
  pub attached : in_instances s.forest.nodes ≡ s.forest.nodes
  pub filled : list_any is_empty_text s.forest.nodes ≡ false
  pub texts : has_long_text p.bounds.limits.text s.forest.nodes ≡ false
  pub is_fresh : fresh p s ≡ s

-- ---- the data of a form

abbrev pub is_empty : ℕ × Content → Bool
is_empty c = is_text c.1 && (length (own_text c.1) == 0)

-- no text of these is empty
abbrev pub are_filled : List (ℕ × Content) → Bool
are_filled contents = not (list_any is_empty contents)

abbrev pub is_filled : Program → Bool
is_filled form = list_all are_filled form.documents

-- ---- the laws

abbrev pub ChangesWithin : Profile → Type 0
ChangesWithin p = (answers : List Answer) (event : Event) (s t : State) → is_filled s.form ≡ true → Within p s → changed_by p answers event s ≡ Ok t → Within p t

-- an accepted event counts as one more
pub record Steps (p : Profile) (s t : State) : Type 0 where
  pub rests : Rests p t
  pub form : t.form ≡ s.form
  pub accepted : t.accepted ≡ suc s.accepted

abbrev pub StepsRest : Profile → Type 0
StepsRest p = (event : Event) (answers : List Answer) (s t : State) (posted : Posted)
    → is_filled s.form ≡ true → Rests p s → step p s event answers ≡ accepted t posted → Steps p s t

pub record Starts (p : Profile) (begun : Program) (s : State) : Type 0 where
  pub rests : Rests p s
  pub form : s.form ≡ begun
  pub accepted : s.accepted ≡ 0

abbrev pub StartsRest : Profile → Type 0
StartsRest p = (form : Program) (answers : List Answer) (s : State) (posted : Posted)
    → is_filled form ≡ true → start p form answers ≡ accepted s posted → Starts p form s

-- so is each state that a session comes to
abbrev pub RunsRest : Profile → Type 0
RunsRest p = (form : Program) (answers : List Answer) (items : List Item) (s : State)
    → is_filled form ≡ true → run p form answers items ≡ Some s → Rests p s

pub record RestLaws (p : Profile) : Type 0 where
  pub changed : ChangesWithin p
  pub stepped : StepsRest p
  pub started : StartsRest p
  pub ran : RunsRest p
  -- they are no more than is asked of a state at rest
  pub of_rest : (s : State) → IsAtRest p s → Rests p s

abbrev pub StepRests : Type 0
StepRests = (p : Profile) → RestLaws p
