use Rattle.std.proofs.Common.{◌≡◌, ◌≤◌, length, take}
use Rattle.xf_def_model.specs.Settled.{calculates}
use Rattle.xf_binds.specs.Held.{entries_in}
use Rattle.xf_binds.specs.Placed.{places_from}
use Rattle.xf_binds.proofs.turns.places_of.Given as goal

abbrev pub invariant-loop-at : goal.invariant-loop-at
invariant-loop-at l = record {
  places : l.places.items ≡ places_from 0 (take l.at (entries_in l.fn.applied));
  so_far : l.count ≡ length (calculates (take l.at (entries_in l.fn.applied)));
  few : l.count ≤ l.at;
}
