use Rattle.std.proofs.Common.{◌≡◌, drop}
use Rattle.std.specs.List.{list_all}
use Rattle.xf_path.specs.Calls.{may_give_nodes}
use Rattle.xf_path.proofs.calls.all_may_give_nodes.Given as goal

abbrev pub invariant-loop-argument : goal.invariant-loop-argument
invariant-loop-argument l = list_all may_give_nodes (drop l.argument-index l.arguments) ≡ list_all may_give_nodes l.arguments
