use Rattle.xf_binds.specs.Table.{kept_at}
use Rattle.xf_recalc_pertinent.specs.Spread.{Hears, gives_before}
use Rattle.xf_recalc_pertinent.proofs.spreading.hear_marked.Given as goal

abbrev pub invariant-loop-at : goal.invariant-loop-at
invariant-loop-at l = Hears l.fn.heard l.heard (gives_before (kept_at l.fn.table l.model).entries (kept_at l.fn.table l.model).asks l.fn.marks l.at)
