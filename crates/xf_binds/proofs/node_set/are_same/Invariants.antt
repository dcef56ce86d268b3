use Rattle.std.proofs.Common.{◌≡◌, take}
use Rattle.xf_binds.proofs.NodeSets.{numbers_of}
use Rattle.xf_binds.proofs.node_set.are_same.Given as goal

abbrev pub invariant-loop-at : goal.invariant-loop-at
invariant-loop-at l = numbers_of (take l.at l.others) ≡ numbers_of (take l.at l.some)
