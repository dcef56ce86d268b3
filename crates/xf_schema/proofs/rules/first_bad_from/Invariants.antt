use Rattle.std.proofs.Common.{◌≡◌, drop}
use Rattle.xf_schema.specs.Faults.{first_bad_from}
use Rattle.xf_schema.proofs.rules.first_bad_from.Given as goal

abbrev pub invariant-loop-here : goal.invariant-loop-here
invariant-loop-here l = first_bad_from l.types l.number (drop l.number l.types) ≡ first_bad_from l.types l.here (drop l.here l.types)
