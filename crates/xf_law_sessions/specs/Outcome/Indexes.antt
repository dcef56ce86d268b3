-- The indexes of a state at rest are fixed by their numbers: each has at its node the row with its number, the indexes of outer repeats first.
use Rattle.std.specs.Prelude.{ℕ, ◌≡◌, true, map}
use Rattle.xf_def_syntax.specs.Ordered.{IsOrdered}
use Rattle.xf_def_forest.specs.Same.{IsRenumbering, renumbered}
use Rattle.xf_def_machine.specs.Profile.{Profile}
use Rattle.xf_def_machine.specs.Program.{Program}
use Rattle.xf_def_machine.specs.State.{State}
use Rattle.xf_def_machine.specs.AtRest.{are_placed}
use Rattle.xf_def_machine.specs.Same.{renumbered_index}
use Rattle.xf_law_sessions.specs.Step.Steps.{IsOfForm}

-- a form of which the elements are numbered in document order
pub record IsNumbered (program : Program) : Type 0 where
  pub of_form : IsOfForm program
  pub ordered : IsOrdered of_form.form

-- the nodes are the same but for numbers, and the indexes have the same numbers
pub record HaveSameRows (f : ℕ → ℕ) (s t : State) : Type 0 where
  pub renumbers : IsRenumbering f
  pub form : s.form ≡ t.form
  pub nodes : map (renumbered f) s.forest.nodes ≡ t.forest.nodes
  pub indexes : map (λ i. i.index) s.indexes ≡ map (λ i. i.index) t.indexes

abbrev pub IndexesAreFixed : Type 0
IndexesAreFixed = (p : Profile) (f : ℕ → ℕ) (s t : State) → IsNumbered s.form → HaveSameRows f s t → are_placed p s ≡ true → are_placed p t ≡ true
    → map (renumbered_index f) s.indexes ≡ t.indexes
