use Rattle.std.proofs.Common.{◌≡◌, ℕ, drop}
use Rattle.xf_name.specs.Shown.{walk_of_all}
use Rattle.xf_def_forest.specs.Planted.{first_fault, written_fault}
use Rattle.xf_tree_literals.proofs.fault.+faults.Given as goal

abbrev pub invariant-fault_of_all-loop-lit : goal.invariant-fault_of_all-loop-lit
invariant-fault_of_all-loop-lit l = (depth : ℕ)
    → first_fault (written_fault l.prefixes) (walk_of_all (drop l.lit-index l.lits) l.above depth) ≡ first_fault (written_fault l.prefixes) (walk_of_all l.lits l.above depth)
