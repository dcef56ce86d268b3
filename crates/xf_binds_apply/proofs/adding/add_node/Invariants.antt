use Rattle.std.proofs.Common.{ℕ, List, take, Some, ◌≡◌}
use Rattle.std.specs.List.{flat_map}
use Rattle.xf_def_forest.specs.Shape.{shape_of}
use Rattle.xf_def_model.specs.Applied.{entries_at, standing_in}
use Rattle.xf_binds.specs.Held.{entries_in}
use Rattle.xf_binds_apply.specs.Adding.{Added}
use Rattle.xf_binds_apply.specs.Standing.{first_standing}
use Rattle.xf_binds_apply.proofs.adding.add_node.Given as goal

abbrev pub invariant-loop-property : goal.invariant-loop-property
invariant-loop-property l = (given : List (List ℕ)) → first_standing (flat_map (standing_in l.node.number) given) ≡ Some l.standing
    → Added (shape_of l.forest.forest.nodes) (entries_in l.fn.applied) (flat_map (entries_at l.bind given l.node.number) (take l.property-index l.properties)) (entries_in l.applied)
