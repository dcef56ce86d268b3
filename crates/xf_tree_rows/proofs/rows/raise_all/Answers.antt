use Rattle.std.proofs.Common.{arith}
use Rattle.xf_tree_rows.proofs.RowLemmas.{raise-step}
use Rattle.xf_tree_rows.proofs.rows.raise_all.Goals as goal

pub loop-row-preserved : goal.loop-row-preserved
loop-row-preserved c =
    raise-step c.args.by c.loop-row.row-index c.args.rows.now c.loop-row.rows _ _ (omega arith) c.loop-row.invariant c.saturating_sub-row.ensures
