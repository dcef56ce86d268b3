use Rattle.std.proofs.Common.{◌≡◌, [], true}
use Rattle.xf_test_devices.proofs.streams.given.Given as goal

abbrev pub invariant-loop : goal.invariant-loop
invariant-loop l = l.lines.ended ≡ true → l.source.left ≡ []
