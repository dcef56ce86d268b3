use Rattle.std.proofs.Common.{length}
use Rattle.xf_events.proofs.notes.drop_all.Given as goal

abbrev pub decreases-loop-notes : goal.decreases-loop-notes
decreases-loop-notes l = length l.notes
