-- The parts of what is written for an accepted event.
use Rattle.std.specs.Prelude.{ℕ, ◌≡◌, Bool, true, false, List, [], ◌++◌, codes, decimal, Option, Some, None}
use Rattle.xf_def_machine.specs.declared.note.Note.{Note}
use Rattle.xf_def_machine.specs.State.{State}
use Rattle.xf_def_machine.specs.Step.{Posted}
use Rattle.xf_def_machine.specs.StateText.{spaced, line_of}
use Rattle.xf_def_machine.specs.Replies.{note_lines}

-- the evaluations, where they are counted
abbrev pub counted_in : Bool → ℕ → Option ℕ
counted_in true count = Some count
counted_in false count = None

-- what an accepted event gives out, and the state after it
pub record IsAnswer (counts : Bool) (s : State) (posted : Posted) (notes : List Note) (accepted : ℕ) (counted : Option ℕ) : Type 0 where
  pub told : posted.notes ≡ notes
  pub number : s.accepted ≡ accepted
  pub count : counted_in counts posted.evaluated ≡ counted

abbrev pub count_text : Option ℕ → List ℕ
count_text None = []
count_text (Some count) = spaced (decimal count)

abbrev pub answer_text : List Note → ℕ → Option ℕ → List ℕ
answer_text notes accepted counted = note_lines notes ++ line_of (codes "ok " ++ decimal accepted ++ count_text counted)
