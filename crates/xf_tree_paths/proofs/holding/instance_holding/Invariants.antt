use Rattle.std.proofs.Common.{◌≡◌, ◌<◌, ℕ, false}
use Rattle.xf_def_forest.specs.Order.{instance_of}
use Rattle.xf_def_machine.specs.StateText.{is_place}
use Rattle.xf_tree_paths.proofs.holding.instance_holding.Given as goal

abbrev pub invariant-loop-place : goal.invariant-loop-place
invariant-loop-place l = (place : ℕ) → place < l.place → is_place place (instance_of l.top.number l.forest.forest.nodes) ≡ false
