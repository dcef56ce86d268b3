-- Indexes that are brought up to date are placed (XForms 1.1, section 9.3.1): each is 0 without rows, or the place of one of its rows. And no change of
-- indexes changes how many there are.
use Rattle.std.specs.Prelude.{ℕ, ◌≡◌, true, List, [], length, Ok}
use Rattle.xf_def_machine.specs.AtRest.{are_placed}
use Rattle.xf_def_machine.specs.Choose.{set_index}
use Rattle.xf_def_machine.specs.Construct.{start_indexes}
use Rattle.xf_def_machine.specs.Flow.{Run}
use Rattle.xf_def_machine.specs.Profile.{Profile}
use Rattle.xf_def_machine.specs.State.{State}
use Rattle.xf_def_machine.specs.Surround.{interface}
use Rattle.xf_def_machine.specs.Update.{reindex}
use Rattle.xf_law_sessions.specs.Outcome.Indexes.{IsNumbered}

-- each repeat has an index
abbrev pub HasIndexes : State → Type 0
HasIndexes s = length s.indexes ≡ length (interface s).repeats

abbrev pub BroughtArePlaced : Type 0
BroughtArePlaced = (p : Profile) (s t : State) → IsNumbered s.form → HasIndexes s → reindex p [] s ≡ Ok t → are_placed p t ≡ true

-- the indexes at which a form starts
abbrev pub StartedArePlaced : Type 0
StartedArePlaced = (p : Profile) (s t : State) → IsNumbered s.form → start_indexes p s ≡ Ok t → are_placed p t ≡ true

abbrev pub KeepsIndexes : Run → Type 0
KeepsIndexes run = (s t : State) → HasIndexes s → run s ≡ Ok t → HasIndexes t

pub record IndexLaws : Type 0 where
  pub reindex : (p : Profile) (added : List ℕ) → KeepsIndexes (reindex p added)
  pub set_index : (p : Profile) (model r n : ℕ) → KeepsIndexes (set_index p model r n)
