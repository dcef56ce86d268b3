use Rattle.std.proofs.Common.{◌≡◌, ◌-◌, ◌^◌, min, take}
use Rattle.xf_binds.specs.Asked.{asked_by_all, asking}
use Rattle.xf_binds.proofs.table.asked_among.Given as goal

abbrev pub invariant-loop-at : goal.invariant-loop-at
invariant-loop-at l = l.sum ≡ min (asked_by_all (take l.at (asking l.models l.fn.model l.fn.web))) (2 ^ 64 - 1)
