use Rattle.std.proofs.Common.{◌≡◌, ◌++◌, ◌∷◌, length, take}
use Rattle.std.specs.List.{flat_map}
use Rattle.xf_journal.specs.Entry.{answer_bytes}
use Rattle.xf_journal.proofs.answers.put_answers.Given as goal

abbrev pub invariant-loop-answer : goal.invariant-loop-answer
invariant-loop-answer l = l.bytes.items ≡ l.fn.bytes.items ++ length l.answers ∷ flat_map answer_bytes (take l.answer-index l.answers)
