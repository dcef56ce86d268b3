use Rattle.std.proofs.Common.{take}
use Rattle.xf_io.specs.Lines.{IsOpen}
use Rattle.xf_io.proofs.lines.line_feed_at.Given as goal

abbrev pub invariant-loop-at : goal.invariant-loop-at
invariant-loop-at l = IsOpen (take l.at l.bytes)
