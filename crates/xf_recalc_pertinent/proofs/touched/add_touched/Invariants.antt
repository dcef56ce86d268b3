use Rattle.std.proofs.Common.{◌≡◌, ℕ, ◌||◌, map, take}
use Rattle.xf_def_forest.specs.declared.node.NodeId.{NodeId}
use Rattle.xf_def_forest.specs.Shape.{shape_of}
use Rattle.xf_def_forest.specs.Visit.{has}
use Rattle.xf_recalc_pertinent.specs.Spread.{is_touched}
use Rattle.xf_recalc_pertinent.proofs.touched.add_touched.Given as goal

abbrev pub invariant-loop-node : goal.invariant-loop-node
invariant-loop-node l = (n : ℕ) → has n l.numbers
    ≡ (is_touched (shape_of l.forest.forest.nodes) (map (λ (i : NodeId). i.number) (take l.node-index l.nodes)) n || has n l.fn.numbers)
