use Rattle.xf_binds.specs.Table.{kept_at}
use Rattle.xf_recalc.proofs.Known.{kept-at}
use Rattle.xf_recalc.proofs.truths.kept_truth.Goals as goal

pub returns : goal.returns
returns c = kept-at (kept_at c.args.table.now c.args.model) c.args.at c.truth_at.result c.truth_at.ensures.truth c.truth_at.ensures.alone
