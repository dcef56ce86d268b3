use Rattle.std.proofs.Common.{◌++◌}
use Rattle.xf_io.proofs.Steps.{gives_ended, counts_ended}
use Rattle.xf_io.proofs.lines.Lines.next.Goals as goal

pub returns-in-Ended-clause-line : goal.returns-in-Ended-clause-line
returns-in-Ended-clause-line g c =
    let part = c.loop-part.invariant in
    let step = c.in-Ended.ensures.takes in
    let whole = step.grows part.0 part.1.is_part in
    gives_ended _ _ _ part.0 step.bytes c.step.new.self c.ended.result whole.without_line_feed part.1.taken step.taken (c.ended.ensures (part.0 ++ step.bytes) whole)

pub returns-in-Ended-clause-counts : goal.returns-in-Ended-clause-counts
returns-in-Ended-clause-counts g c =
    let part = c.loop-part.invariant in
    let step = c.in-Ended.ensures.takes in
    counts_ended _ _ _ _ _ _ part.0 step.bytes part.1.taken step.taken part.1.counted step.counted c.step.ensures.within
