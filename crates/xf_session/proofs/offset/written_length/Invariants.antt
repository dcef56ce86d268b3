use Rattle.std.proofs.Common.{◌≡◌, ◌+◌, length, take}
use Rattle.std.specs.List.{flat_map}
use Rattle.xf_journal.specs.Entry.{answer_bytes}
use Rattle.xf_session.proofs.offset.written_length.Given as goal

abbrev pub invariant-loop-answer : goal.invariant-loop-answer
invariant-loop-answer l = l.length ≡ length l.entry.line + 10 + length (flat_map answer_bytes (take l.answer-index l.entry.answers))
