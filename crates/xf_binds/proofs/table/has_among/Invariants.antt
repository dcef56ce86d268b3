use Rattle.std.proofs.Common.{◌≡◌, drop}
use Rattle.xf_binds.specs.Table.{truth_among}
use Rattle.xf_binds.proofs.table.has_among.Given as goal

abbrev pub invariant-loop-kept : goal.invariant-loop-kept
invariant-loop-kept l = truth_among l.models l.property l.node.number ≡ truth_among (drop l.kept-index l.models) l.property l.node.number
