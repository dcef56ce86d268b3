-- Nodes by their numbers.
use Rattle.std.specs.Prelude.{ℕ, List, map}
use Rattle.xf_def_forest.specs.declared.node.NodeId.{NodeId}

abbrev pub number : NodeId → ℕ
number n = n.number

abbrev pub numbers : List NodeId → List ℕ
numbers ns = map number ns
