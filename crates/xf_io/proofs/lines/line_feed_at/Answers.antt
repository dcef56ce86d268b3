use Rattle.std.proofs.Common.{arith}
use Rattle.xf_io.proofs.Steps.{open_more}
use Rattle.xf_io.proofs.lines.line_feed_at.Goals as goal

pub loop-at-preserved : goal.loop-at-preserved
loop-at-preserved c = open_more c.args.bytes.now c.loop-at.at (omega arith) c.loop-at.invariant c.if-byte-eq10.false
