use Rattle.std.proofs.Common.{◌≡◌, ◌+◌, length}
use Rattle.xf_def_sessions.specs.Opening.{difference_from}
use Rattle.xf_session.proofs.looking.difference.Given as goal

abbrev pub invariant-loop-byte : goal.invariant-loop-byte
invariant-loop-byte l = (difference_from l.at l.left l.right ≡ difference_from 0 l.bytes l.others) × (l.at + length l.left ≡ length l.bytes)

abbrev pub decreases-loop-byte : goal.decreases-loop-byte
decreases-loop-byte l = length l.left
