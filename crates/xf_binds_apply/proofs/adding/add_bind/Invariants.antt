use Rattle.std.proofs.Common.{ℕ, List, take}
use Rattle.std.specs.List.{flat_map}
use Rattle.xf_def_forest.specs.Shape.{shape_of}
use Rattle.xf_def_model.specs.Applied.{entries_at}
use Rattle.xf_binds.specs.Held.{entries_in}
use Rattle.xf_binds_apply.specs.Adding.{Added}
use Rattle.xf_binds_apply.specs.Standing.{AreStandings}
use Rattle.xf_binds_apply.proofs.adding.add_bind.Given as goal

abbrev pub invariant-loop-node : goal.invariant-loop-node
invariant-loop-node l = (given : List (List ℕ)) → AreStandings l.sets.nodes l.sets.places given
    → Added (shape_of l.forest.forest.nodes) (entries_in l.fn.applied) (flat_map (λ i. flat_map (entries_at l.place given i.number) l.properties.items) (take l.node-index l.node-items)) (entries_in l.applied)
