use Rattle.std.proofs.Common.{◌≡◌, ℕ, nat_eq, take}
use Rattle.indexmap.specs.IndexMap.{get}
use Rattle.xf_controls.specs.Before.{first_in}
use Rattle.xf_controls.proofs.before.first_places.Given as goal

abbrev pub invariant-loop-at : goal.invariant-loop-at
invariant-loop-at l = (n : ℕ) → get nat_eq l.places n ≡ first_in n (take l.at l.copies)
