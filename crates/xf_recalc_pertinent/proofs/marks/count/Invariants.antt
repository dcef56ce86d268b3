use Rattle.std.proofs.Common.{◌≡◌, filter, length, take}
use Rattle.xf_recalc_pertinent.proofs.marks.count.Given as goal

abbrev pub invariant-loop-place : goal.invariant-loop-place
invariant-loop-place l = l.count ≡ length (filter (λ mark. mark) (take l.place l.fn.marks))
