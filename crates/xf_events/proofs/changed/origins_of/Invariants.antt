use Rattle.std.proofs.Common.{◌≡◌, ◌++◌, drop}
use Rattle.xf_events.proofs.OriginLaws.{origins}
use Rattle.xf_events.proofs.changed.origins_of.Given as goal

abbrev pub invariant-loop-place : goal.invariant-loop-place
invariant-loop-place l = l.origins ++ origins (drop l.place-index l.places) ≡ origins l.places
