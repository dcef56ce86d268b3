use Rattle.xf_def_forest.specs.Visit.{has}
use Rattle.xf_binds.specs.Table.{kept_at}
use Rattle.xf_recalc_pertinent.specs.Places.{is_marked}
use Rattle.xf_recalc_pertinent.proofs.Spreads.{IsSpreading}
use Rattle.xf_recalc_pertinent.proofs.spreading.spread.Given as goal

abbrev pub invariant-loop-at : goal.invariant-loop-at
invariant-loop-at l = IsSpreading (kept_at l.fn.table l.model).entries (kept_at l.fn.table l.model).asks (is_marked l.fn.begun) (λ n. has n l.fn.touched) l.marks l.heard l.at
