use Rattle.std.proofs.Common.{◌<◌, ℕ}
use Rattle.xf_binds.proofs.Alikes.{KeepsAt}
use Rattle.xf_binds.proofs.kept.Kept.keeps_properties.Given as goal

abbrev pub invariant-loop-at : goal.invariant-loop-at
invariant-loop-at l = (i : ℕ) → i < l.at → KeepsAt l.self l.truths i
