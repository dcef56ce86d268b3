use Rattle.std.proofs.Common.{◌≡◌, ◌++◌, drop}
use Rattle.xf_valid.specs.Failed.{roots_from}
use Rattle.xf_valid.proofs.invalid.roots_of.Given as goal

abbrev pub invariant-loop-place : goal.invariant-loop-place
invariant-loop-place l = l.roots ++ roots_from l.model l.forest.forest.nodes l.place (drop l.place l.instances) ≡ roots_from l.model l.forest.forest.nodes 0 l.instances
