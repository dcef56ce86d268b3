-- How many bytes the lines of notes have.
use Rattle.std.proofs.Common.{◌≡◌, ◌+◌, List, [], ◌∷◌, ◌++◌, length, ap, sym, ◌∙◌}
use Rattle.std.proofs.lemmas.List.{append-nil}
use Rattle.std.proofs.lemmas.List.Sums.{sum_by_push}
use Rattle.xf_def_machine.specs.declared.note.Note.{Note}
use Rattle.xf_def_machine.specs.NoteLines.{note_line, notes_size}
use Rattle.xf_def_machine.specs.Replies.{note_lines}

pub size-more : (notes : List Note) (note : Note) → notes_size (notes ++ note ∷ []) ≡ notes_size notes + length (note_lines (note ∷ []))
size-more notes note = sum_by_push (λ n. length (note_line n)) notes note ∙ ap (λ l. notes_size notes + length l) (sym (append-nil (note_line note)))

pub last-same : (x y : Note) (xs : List Note) → x ∷ [] ≡ xs ++ y ∷ [] → y ≡ x
last-same x y [] e = cc e
last-same x y (z ∷ []) e = cc e
last-same x y (z ∷ w ∷ xs) e = cc e
