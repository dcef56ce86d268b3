-- Events over two states that are the same but for the numbers of nodes: one renumbering goes on through the numbers that they give, one event after
-- the other, as long as those stay below the numbers that texts have in shapes.
use Rattle.std.specs.Prelude.{ℕ, ◌≡◌, ◌+◌, ◌≤◌, List, [], ◌∷◌}
use Rattle.xf_line.specs.declared.event.Event.{Event}
use Rattle.xf_store.specs.declared.answers.Answer.{Answer}
use Rattle.xf_def_machine.specs.Profile.{Profile}
use Rattle.xf_def_machine.specs.State.{State}
use Rattle.xf_def_machine.specs.Same.{IsSame}
use Rattle.xf_def_machine.specs.Step.{Posted, Outcome, accepted, refused, step}
use Rattle.xf_law_sessions.specs.Step.Steps.{IsOfForm}

-- the same but for numbers, through so many numbers that both give next
pub record AreSameFor (made : ℕ) (s t : State) : Type 0 where
  pub same : IsSame s t
  pub continues : (k : ℕ) → k ≤ made → same.by (s.forest.next + k) ≡ t.forest.next + k

-- accepted of both with the same notes, count and calls, and such states again; or refused of both for the same reason
abbrev pub EndSame : ℕ → Outcome → Outcome → Type 0
EndSame made (accepted s posted) (accepted t other) = AreSameFor made s t × (posted ≡ other)
EndSame made (refused why calls) (refused other_why other_calls) = (why ≡ other_why) × (calls ≡ other_calls)
EndSame made one other = ⊥

-- an event gives no more numbers than one event may
abbrev pub EventGoes : Type 0
EventGoes = (p : Profile) (made : ℕ) (event : Event) (answers : List Answer) (s t : State) → IsOfForm s.form → AreSameFor (p.made + made) s t
    → EndSame made (step p s event answers) (step p t event answers)

-- so is it with the numbers of any accepted event
abbrev pub EventGives : Type 0
EventGives = (p : Profile) (event : Event) (answers : List Answer) (s t : State) (posted : Posted) → IsOfForm s.form → step p s event answers ≡ accepted t posted
    → t.forest.next ≤ s.forest.next + p.made

-- ---- one event after the other

abbrev pub Lines : Type 0
Lines = List (Event × List Answer)

-- the state that is left
abbrev pub left_by : State → Outcome → State
left_by s (accepted t posted) = t
left_by s (refused why calls) = s

-- the numbers that such events may give
abbrev pub made_by : Profile → Lines → ℕ
made_by p [] = 0
made_by p (line ∷ lines) = p.made + made_by p lines

-- each of them ends alike, over the states that the ones before it left
abbrev pub AllEndSame : Profile → ℕ → Lines → State → State → Type 0
AllEndSame p made [] s t = AreSameFor made s t
AllEndSame p made ((event, answers) ∷ lines) s t =
    EndSame (made_by p lines + made) (step p s event answers) (step p t event answers)
    × AllEndSame p made lines (left_by s (step p s event answers)) (left_by t (step p t event answers))

abbrev pub EventsGo : Type 0
EventsGo = (p : Profile) (made : ℕ) (lines : Lines) (s t : State) → IsOfForm s.form → AreSameFor (made_by p lines + made) s t → AllEndSame p made lines s t

pub record EventLaws : Type 0 where
  pub one : EventGoes
  pub all : EventsGo
  pub gives : EventGives
