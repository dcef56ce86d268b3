-- The lines in which notes are told.
use Rattle.std.specs.Prelude.{ℕ, List, ◌++◌, codes, decimal, length, sum_by}
use Rattle.serde_json.specs.Data.{string}
use Rattle.serde_json.specs.Written.{compact_text}
use Rattle.xf_def_machine.specs.declared.note.Note.{Note}
use Rattle.xf_def_machine.specs.declared.note.Note.TheVariants.{Message, Load, Focus, All}

-- a text as a JSON string (RFC 8259, section 7)
abbrev pub quoted : List ℕ → List ℕ
quoted text = compact_text (string text)

-- what is told of a note
abbrev pub note_text : Note → List ℕ
note_text (Message text) = codes "message " ++ quoted text
note_text (Load text) = codes "load " ++ quoted text
note_text (Focus id) = codes "focus " ++ quoted id
note_text (All name size) = codes "all " ++ quoted name ++ codes " " ++ decimal size

-- its line
abbrev pub note_line : Note → List ℕ
note_line note = codes "note " ++ note_text note ++ codes "\n"

-- the bytes of all lines, line feeds included
abbrev pub notes_size : List Note → ℕ
notes_size notes = sum_by (λ note. length (note_line note)) notes
