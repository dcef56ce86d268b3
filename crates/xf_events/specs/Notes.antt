-- A note that is added: the lines of all notes of one event have a limit.
use Rattle.std.specs.Prelude.{ℕ, ◌≡◌, ◌^◌, true, false, List, [], ◌∷◌, ◌++◌, length, nat_lt, Result, Ok, Err}
use Rattle.xf_def_machine.specs.declared.note.Note.{Note}
use Rattle.xf_def_machine.specs.NoteLines.{notes_size}
use Rattle.xf_def_machine.specs.Replies.{note_lines}
use Rattle.xf_events.specs.declared.notes.NoteFault.{NoteFault}
use Rattle.xf_events.specs.declared.notes.NoteFault.TheVariants.{Limit, Memory}

abbrev pub IsNoted : {X : Type 0} → Result X NoteFault → Note → List Note → List Note → Type 0
IsNoted (Ok x) note before after = (after ≡ before ++ note ∷ []) × (nat_lt (2 ^ 20) (notes_size (before ++ note ∷ [])) ≡ false)
IsNoted (Err Limit) note before after = nat_lt (2 ^ 20) (notes_size (before ++ note ∷ [])) ≡ true
IsNoted (Err Memory) note before after = Unit {0}

-- the same note, and the bytes of its line
pub record IsMeasured (given : Note) (count : ℕ) (note : Note) : Type 0 where
  pub same : given ≡ note
  pub size : count ≡ length (note_lines (note ∷ []))
