use Rattle.xf_binds.proofs.Singles.{alone}
use Rattle.xf_binds.proofs.kept.Kept.truth_at.Goals as goal

pub returns-else-is_type-clause-alone : goal.returns-else-is_type-clause-alone
returns-else-is_type-clause-alone c = alone c.args.self.now c.is_single.ensures c.has_only.ensures c.args.at
