use Rattle.std.proofs.Common.{◌≡◌, length}
use Rattle.xf_binds.specs.Held.{AreNear}
use Rattle.xf_binds.proofs.applied.near_of.Given as goal

abbrev pub invariant-loop-number : goal.invariant-loop-number
invariant-loop-number l = (AreNear l.seats l.near.items) × (length l.near.items ≡ l.number)
