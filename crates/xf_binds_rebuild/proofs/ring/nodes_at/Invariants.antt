use Rattle.std.proofs.Common.{◌≡◌, take}
use Rattle.xf_binds_rebuild.specs.Links.{nodes_in}
use Rattle.xf_binds_rebuild.proofs.ring.nodes_at.Given as goal

abbrev pub invariant-loop-place : goal.invariant-loop-place
invariant-loop-place l = l.found ≡ nodes_in l.fn.nodes (take l.place-index l.places)
