-- The text of a state, and the data by which a session is kept, tell nothing of the numbers of nodes: states that are the same but for these have
-- one text and one set of data. Asked of the form: it is that of a form's tables.
use Rattle.std.specs.Prelude.{◌≡◌}
use Rattle.xf_def_machine.specs.Profile.{Profile}
use Rattle.xf_def_machine.specs.State.{State}
use Rattle.xf_def_machine.specs.Data.{data_of}
use Rattle.xf_def_machine.specs.Same.{IsSame}
use Rattle.xf_def_machine.specs.ControlText.{state_text}
use Rattle.xf_law_sessions.specs.Same.Controls.{HasForm}

-- what is shown of a state
abbrev pub TextStays : Type 0
TextStays = (p : Profile) (s t : State) → HasForm s.form → IsSame s t → state_text p t ≡ state_text p s

-- what is kept of it
abbrev pub DataStay : Type 0
DataStay = (s t : State) → IsSame s t → data_of t ≡ data_of s

-- both
pub record TextLaws : Type 0 where
  pub text : TextStays
  pub kept : DataStay
