-- What a state at rest keeps beside its data is fixed by these: of one form, two states at rest that have the same nodes but for their numbers,
-- the same indexes, cases and count of events have the same models and controls. What is kept can be made again.
use Rattle.std.specs.Prelude.{ℕ, ◌≡◌, ◌≤◌, ◌<◌, ◌^◌, List, [], map, Some}
use Rattle.xf_def_forest.specs.declared.content.Content.{Content}
use Rattle.xf_def_forest.specs.declared.content.Node.{Node}
use Rattle.xf_def_forest.specs.Same.{IsRenumbering, KeepsTexts, renumbered}
use Rattle.xf_line.specs.declared.event.Event.{Event}
use Rattle.xf_def_model.specs.Pertinent.{AllOf}
use Rattle.xf_store.specs.declared.answers.Answer.{Answer}
use Rattle.xf_def_ui.specs.Index.{Index}
use Rattle.xf_def_machine.specs.Profile.{Profile}
use Rattle.xf_def_machine.specs.State.{State}
use Rattle.xf_def_machine.specs.Same.{renumbered_index, IsSame}
use Rattle.xf_def_machine.specs.Step.{step}
use Rattle.xf_def_machine.specs.AtRest.{IsAtRest}
use Rattle.xf_law_sessions.specs.Same.Going.{MayRun}
use Rattle.xf_law_sessions.specs.Step.Steps.{IsOfForm, AreSameOutcomes}

-- the data are the same but for numbers
pub record HaveSameData (f : ℕ → ℕ) (s t : State) : Type 0 where
  pub renumbers : IsRenumbering f
  pub keeps_texts : KeepsTexts f
  pub form : s.form ≡ t.form
  pub nodes : map (renumbered f) s.forest.nodes ≡ t.forest.nodes
  pub indexes : map (renumbered_index f) s.indexes ≡ t.indexes
  pub cases : s.cases ≡ t.cases
  pub accepted : s.accepted ≡ t.accepted

abbrev pub RestIsFixed : Type 0
RestIsFixed = (p : Profile) (f : ℕ → ℕ) (s t : State) → IsOfForm s.form → HaveSameData f s t → IsAtRest p s → IsAtRest p t → IsSame s t

-- a node with its depth, whatever its number
abbrev pub without_number : Node → ℕ × Content
without_number x = (x.depth, x.content)

-- the nodes are the same one by one, but for their numbers
pub record HaveSameContents (s t : State) : Type 0 where
  pub form : s.form ≡ t.form
  pub contents : map without_number s.forest.nodes ≡ map without_number t.forest.nodes
  pub cases : s.cases ≡ t.cases
  pub accepted : s.accepted ≡ t.accepted

-- where nothing comes in rows; numbers of nodes stay below those that texts have in shapes
abbrev pub RowlessIsFixed : Type 0
RowlessIsFixed = (p : Profile) (s t : State) → IsOfForm s.form → s.form.interface.repeats ≡ [] → s.forest.next ≤ 2 ^ 128 → t.forest.next ≤ 2 ^ 128
    → HaveSameContents s t → IsAtRest p s → IsAtRest p t → IsSame s t

-- the number of the row that an index is at was given
abbrev pub IndexBelow : ℕ → Index → Type 0
IndexBelow next i = (n : ℕ) → i.node ≡ Some n → n < next

-- an event over two states at rest with the same data but for numbers, whatever numbers were given before
abbrev pub RestsGo : Type 0
RestsGo = (p : Profile) (event : Event) (answers : List Answer) (f : ℕ → ℕ) (s t : State) → IsOfForm s.form → HaveSameData f s t
    → AllOf (IndexBelow s.forest.next) s.indexes → MayRun p f s.forest.next t.forest.next → IsAtRest p s → IsAtRest p t
    → AreSameOutcomes (step p s event answers) (step p t event answers)

pub record FixedLaws : Type 0 where
  pub with_indexes : RestIsFixed
  pub rowless : RowlessIsFixed
  pub events : RestsGo
