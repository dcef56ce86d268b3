use Rattle.std.proofs.Common.{◌≡◌, drop}
use Rattle.xf_store.specs.Held.{place_from}
use Rattle.xf_store.proofs.memory.place_of.Given as goal

abbrev pub invariant-loop-at : goal.invariant-loop-at
invariant-loop-at l = place_from 0 l.name l.held ≡ place_from l.at l.name (drop l.at l.held)
