use Rattle.std.proofs.Common.{◌≡◌, length}
use Rattle.xf_session.specs.Replaying.{same_answers}
use Rattle.xf_session.proofs.answers.are_same.Given as goal

abbrev pub invariant-loop-answer : goal.invariant-loop-answer
invariant-loop-answer l = same_answers l.left l.others ≡ same_answers l.given l.kept

abbrev pub decreases-loop-answer : goal.decreases-loop-answer
decreases-loop-answer l = length l.left
