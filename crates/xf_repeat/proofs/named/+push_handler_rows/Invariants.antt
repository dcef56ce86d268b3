use Rattle.std.proofs.Common.{length}
use Rattle.xf_repeat.proofs.named.+push_handler_rows.Given as goal

abbrev pub decreases-push_handler_rows : goal.decreases-push_handler_rows
decreases-push_handler_rows l = length l.repeats.now
