use Rattle.std.proofs.Common.{◌≡◌, drop}
use Rattle.xf_store.specs.Held.{found}
use Rattle.xf_store.proofs.memory.found_in.Given as goal

abbrev pub invariant-loop-named : goal.invariant-loop-named
invariant-loop-named l = found l.name l.held ≡ found l.name (drop l.named-index l.held)
