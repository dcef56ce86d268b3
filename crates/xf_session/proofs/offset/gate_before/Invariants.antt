use Rattle.std.proofs.Common.{◌≡◌, ◌-◌, take}
use Rattle.xf_session.specs.Replaying.{taken_bytes}
use Rattle.xf_session.proofs.offset.gate_before.Given as goal

abbrev pub invariant-loop-entry : goal.invariant-loop-entry
invariant-loop-entry l = l.at ≡ l.gate - taken_bytes (take l.entry-index l.entries)
