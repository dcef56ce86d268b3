use Rattle.std.proofs.Common.{map}
use Rattle.xf_def_model.specs.Rules.{rule_of}
use Rattle.xf_binds.specs.Table.{kept_at}
use Rattle.xf_recalc_pertinent.proofs.Begins.{AreBegunTo}
use Rattle.xf_recalc_pertinent.proofs.begun.begun_by_each.Given as goal

abbrev pub invariant-loop-place : goal.invariant-loop-place
invariant-loop-place l = AreBegunTo (map rule_of l.fn.tables.binds) (kept_at l.fn.table l.model) l.marks l.place
