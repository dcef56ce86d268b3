use Rattle.std.proofs.Common.{◌≡◌, ◌++◌, drop, string_bytes}
use Rattle.xf_def_machine.specs.Replies.{note_lines}
use Rattle.xf_report.proofs.note.push_notes.Given as goal

abbrev pub invariant-loop-note : goal.invariant-loop-note
invariant-loop-note l = string_bytes l.text ++ note_lines (drop l.note-index l.notes) ≡ string_bytes l.fn.text ++ note_lines l.notes
