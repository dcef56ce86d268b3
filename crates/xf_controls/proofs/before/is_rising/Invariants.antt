use Rattle.std.proofs.Common.{◌≡◌, drop}
use Rattle.xf_controls.specs.Rising.{rises_from}
use Rattle.xf_controls.proofs.before.is_rising.Given as goal

abbrev pub invariant-loop-copy : goal.invariant-loop-copy
invariant-loop-copy l = rises_from 0 l.copies ≡ rises_from l.least (drop l.copy-index l.copies)
