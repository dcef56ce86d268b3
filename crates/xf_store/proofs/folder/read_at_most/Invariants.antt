use Rattle.std.proofs.Common.{◌-◌, ◌^◌, ◌+◌, vec_len}
use Rattle.xf_store.proofs.folder.read_at_most.Given as goal

abbrev pub decreases-loop-piece : goal.decreases-loop-piece
decreases-loop-piece g l = 2 ^ 20 + 1 - vec_len l.bytes
