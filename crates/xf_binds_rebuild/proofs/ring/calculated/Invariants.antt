use Rattle.std.proofs.Common.{◌≡◌, take}
use Rattle.xf_binds.specs.Held.{entries_in}
use Rattle.xf_binds_rebuild.specs.Links.{calculated_nodes}
use Rattle.xf_binds_rebuild.proofs.ring.calculated.Given as goal

abbrev pub invariant-loop-at : goal.invariant-loop-at
invariant-loop-at l = l.nodes ≡ calculated_nodes (take l.at (entries_in l.fn.applied))
