use Rattle.std.proofs.lemmas.Result.{IfOk-weaker}
use Rattle.xf_binds.specs.Table.{kept_at}
use Rattle.xf_recalc_pertinent.proofs.Counted.{marked}
use Rattle.xf_recalc_pertinent.proofs.counting.pertinent_marks.Goals as goal

pub returns : goal.returns
returns c =
    IfOk-weaker c.spread.result _ _ (λ marks h scope of.
    marked scope c.args.tables.now c.args.forest.now.forest.nodes (kept_at c.args.table.now c.args.model) of c.in_ok-begun.begun c.in_ok-touched.touched c.in_ok-begun.ensures c.in_ok-touched.ensures
    marks h.0 h.1) c.spread.ensures
