use Rattle.std.proofs.Common.{◌≡◌, ℕ, nat_eq, take}
use Rattle.std.specs.HashSet.{contains}
use Rattle.xf_def_forest.specs.Visit.{has}
use Rattle.xf_binds.proofs.NodeSets.{numbers_of}
use Rattle.xf_binds.proofs.node_set.NodeSet.of.Given as goal

abbrev pub invariant-loop-node : goal.invariant-loop-node
invariant-loop-node l = (n : ℕ) → contains nat_eq l.numbers n ≡ has n (numbers_of (take l.node-index l.node-items))
