use Rattle.std.proofs.Common.{◌≡◌}
use Rattle.xf_snap.specs.Reading.{four_at, several}
use Rattle.xf_snap.proofs.SeveralLemmas.{with_front}
use Rattle.xf_snap.proofs.reading.fours_at.Given as goal

abbrev pub invariant-loop-left : goal.invariant-loop-left
invariant-loop-left l = with_front l.numbers.items (several four_at l.left l.rest) ≡ several four_at l.count l.bytes

abbrev pub decreases-loop-left : goal.decreases-loop-left
decreases-loop-left l = l.left
