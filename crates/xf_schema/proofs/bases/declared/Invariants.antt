use Rattle.std.proofs.Common.{◌≡◌, drop}
use Rattle.xf_schema.specs.Types.{declared_from}
use Rattle.xf_schema.proofs.bases.declared.Given as goal

abbrev pub invariant-loop-number : goal.invariant-loop-number
invariant-loop-number l = declared_from 0 l.names l.space l.local ≡ declared_from l.number (drop l.number l.names) l.space l.local
