use Rattle.std.proofs.Common.{◌≡◌, drop}
use Rattle.xf_json.specs.Printed.{are_rising, rise_from}
use Rattle.xf_json.proofs.printing.is_in_order.Given as goal

abbrev pub invariant-loop-pair : goal.invariant-loop-pair
invariant-loop-pair l = are_rising l.attributes ≡ rise_from l.last.name (drop l.pair-index l.rest)
