use Rattle.std.proofs.Common.{take}
use Rattle.xf_def_forest.specs.Visit.{has}
use Rattle.xf_binds.specs.Table.{kept_at}
use Rattle.xf_recalc_pertinent.specs.Spread.{Reaches}
use Rattle.xf_recalc_pertinent.proofs.spreading.reach_all.Given as goal

abbrev pub invariant-loop-place : goal.invariant-loop-place
invariant-loop-place l = Reaches (kept_at l.fn.table l.model).entries (kept_at l.fn.table l.model).asks l.fn.marks l.marks l.fn.heard l.heard (λ place. has place (take l.place-index l.places))
