use Rattle.std.proofs.Common.{◌≡◌, true, take}
use Rattle.std.specs.List.{list_all}
use Rattle.xf_eval_shape.specs.Woven.{is_shown}
use Rattle.xf_binds_apply.specs.Standing.{AreSets}
use Rattle.xf_binds_apply.specs.Reached.{sets_at}
use Rattle.xf_binds_apply.proofs.StandingLaws.{numbers}
use Rattle.xf_binds_apply.proofs.sets.sets_at.Given as goal

abbrev pub invariant-loop-node : goal.invariant-loop-node
invariant-loop-node g l = record {
  so_far : AreSets l.sets.nodes l.sets.places (sets_at (g.A.Around.given l.around) l.forest.forest.nodes l.model l.node_set (numbers (take l.node-index l.node-items)));
  shown : list_all (is_shown l.forest.forest.nodes) l.sets.nodes ≡ true;
}
