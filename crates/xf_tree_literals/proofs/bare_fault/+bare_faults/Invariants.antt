use Rattle.std.proofs.Common.{◌≡◌, drop}
use Rattle.xf_def_forest.specs.Planted.{first_fault, bare_fault}
use Rattle.xf_tree_literals.specs.Contents.{elements_of_all}
use Rattle.xf_tree_literals.proofs.bare_fault.+bare_faults.Given as goal

abbrev pub invariant-fault_of_all-loop-tree : goal.invariant-fault_of_all-loop-tree
invariant-fault_of_all-loop-tree l = first_fault (bare_fault l.prefixes) (elements_of_all (drop l.tree-index l.trees)) ≡ first_fault (bare_fault l.prefixes) (elements_of_all l.trees)
