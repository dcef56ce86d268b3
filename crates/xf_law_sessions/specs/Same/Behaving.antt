-- The behaviours of a model (XForms 1.1, section 4.3) over a state with other numbers of nodes: they make of it what they make of the state,
-- with these numbers. Asked of the form: its binds are those of tables, as those of each form that is loaded.
use Rattle.std.specs.Prelude.{ℕ, ◌≡◌, map, Ok}
use Rattle.xf_def_syntax.specs.declared.form.Tables.{Tables}
use Rattle.xf_def_model.specs.Rules.{rule_of}
use Rattle.xf_def_machine.specs.Profile.{Profile}
use Rattle.xf_def_machine.specs.Program.{Program}
use Rattle.xf_def_machine.specs.State.{State}
use Rattle.xf_def_machine.specs.Flow.{Run}
use Rattle.xf_def_machine.specs.Behave.{rebuild, recalculate, revalidate}
use Rattle.xf_law_sessions.specs.Same.Going.{Runs, Counts, GoesAt}

abbrev pub HasTables : Program → Type 0
HasTables form = (tables : Tables) × (form.rules ≡ map rule_of tables.binds)

abbrev pub Behaves : Profile → (ℕ → ℕ) → ℕ → ℕ → Run → Type 0
Behaves p f first second run = (s : State) → HasTables s.form → Counts p first s → GoesAt p f first second run run s

pub record BehaviourLaws (p : Profile) (f : ℕ → ℕ) (first second : ℕ) : Type 0 where
  pub rebuild : (model : ℕ) → Behaves p f first second (rebuild p model)
  pub recalculate : (model : ℕ) → Behaves p f first second (recalculate p model)
  pub revalidate : (model : ℕ) → Behaves p f first second (λ s. Ok (revalidate p model s))

abbrev pub BehavioursGo : Type 0
BehavioursGo = (p : Profile) (f : ℕ → ℕ) (first second : ℕ) → Runs p f first second → BehaviourLaws p f first second
