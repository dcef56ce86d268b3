use Rattle.std.proofs.Common.{◌≡◌, map, take}
use Rattle.xf_controls.specs.Seen.{number}
use Rattle.xf_controls_copies.proofs.made.chain_of.Given as goal

abbrev pub invariant-loop-node : goal.invariant-loop-node
invariant-loop-node l = l.chain ≡ map number (take l.node-index l.rows)
