use Rattle.std.proofs.Common.{◌≡◌, ◌≤◌, length, drop, map, None}
use Rattle.xf_def_forest.specs.Visit.{visits}
use Rattle.xf_def_model.specs.Places as model
use Rattle.xf_actions.specs.Seen.{place_of}
use Rattle.xf_insert.proofs.placing.last_alike.Given as goal

-- none of those behind has such an attribute
abbrev pub invariant-loop-at : goal.invariant-loop-at
invariant-loop-at l = record {
  within : l.at ≤ length l.places;
  none : model.last_alike (visits l.forest.forest.nodes) l.node.number l.at (map place_of (drop l.at l.places)) ≡ None;
}

abbrev pub decreases-loop-at : goal.decreases-loop-at
decreases-loop-at l = l.at
