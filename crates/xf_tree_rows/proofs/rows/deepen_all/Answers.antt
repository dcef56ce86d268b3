use Rattle.std.proofs.Common.{arith}
use Rattle.xf_tree_rows.proofs.PasteLemmas.{deepen-step}
use Rattle.xf_tree_rows.proofs.rows.deepen_all.Goals as goal

pub loop-row-preserved : goal.loop-row-preserved
loop-row-preserved c =
    deepen-step c.args.by c.loop-row.row-index c.args.rows.now c.loop-row.rows _ (omega arith) c.loop-row.invariant
