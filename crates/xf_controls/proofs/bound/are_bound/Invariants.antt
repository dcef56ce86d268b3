use Rattle.xf_controls.proofs.BoundLaws.{BoundBelow}
use Rattle.xf_controls.proofs.bound.are_bound.Given as goal

abbrev pub invariant-loop-at : goal.invariant-loop-at
invariant-loop-at l = BoundBelow l.form l.known l.at
