use Rattle.std.proofs.Common.{◌≡◌, map, take}
use Rattle.xf_def_model.specs.Pertinent.{AllOf}
use Rattle.xf_binds.specs.Held.{entries_in}
use Rattle.xf_binds.specs.Placed.{IsSeatedIn, placed_of, placed_on}
use Rattle.xf_binds.proofs.turns.turns_on.Given as goal

abbrev pub invariant-loop-at : goal.invariant-loop-at
invariant-loop-at l = record {
  placed : map placed_of l.turns.items ≡ placed_on (entries_in l.fn.applied) (take l.at l.fn.nodes);
  seated : AllOf (IsSeatedIn (entries_in l.fn.applied)) l.turns.items;
}
