use Rattle.std.proofs.Common.{◌≡◌, take}
use Rattle.xf_session.proofs.answers.copy_of.Given as goal

abbrev pub invariant-loop-answer : goal.invariant-loop-answer
invariant-loop-answer l = l.copy.items ≡ take l.answer-index l.answers
