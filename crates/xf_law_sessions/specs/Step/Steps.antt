-- An event from outside over two states that are the same but for the numbers of nodes: it is accepted of both or of none, with the same notes
-- and calls of the store or for the same reason, and leaves such states again. Asked of the form: it is that of a form's tables.
use Rattle.std.specs.Prelude.{ℕ, ◌≡◌, List}
use Rattle.xf_def_syntax.specs.declared.form.Form.{Form}
use Rattle.xf_line.specs.declared.event.Event.{Event}
use Rattle.xf_name.specs.Bindings.{Bindings}
use Rattle.xf_store.specs.declared.answers.Answer.{Answer}
use Rattle.xf_def_forest.specs.declared.content.Content.{Content}
use Rattle.xf_def_machine.specs.Profile.{Profile}
use Rattle.xf_def_machine.specs.Program.{Program}
use Rattle.xf_def_machine.specs.Tables.{program_of}
use Rattle.xf_def_machine.specs.State.{State}
use Rattle.xf_def_machine.specs.Step.{Outcome, accepted, refused, step}
use Rattle.xf_def_machine.specs.Same.{IsSame}
use Rattle.xf_law_sessions.specs.Same.Going.{Runs}

pub record IsOfForm (program : Program) : Type 0 where
  pub form : Form
  pub bindings : Bindings
  pub documents : List (List (ℕ × Content))
  pub is : program ≡ program_of form bindings documents

-- the outcome with other numbers
abbrev pub AreSameOutcomes : Outcome → Outcome → Type 0
AreSameOutcomes (accepted s posted) (accepted t other) = IsSame s t × (posted ≡ other)
AreSameOutcomes (refused why calls) (refused other_why other_calls) = (why ≡ other_why) × (calls ≡ other_calls)
AreSameOutcomes one other = ⊥

-- the numbers that the event may give go over into each other
abbrev pub StepsGo : Type 0
StepsGo = (p : Profile) (event : Event) (answers : List Answer) (s t : State) (h : IsSame s t)
    → IsOfForm s.form → Runs p h.by s.forest.next t.forest.next → AreSameOutcomes (step p s event answers) (step p t event answers)
