use Rattle.std.proofs.Common.{arith}
use Rattle.xf_tree_changes.proofs.RunLemmas.{settled-same}
use Rattle.xf_tree_changes.proofs.run.settle.Goals as goal

pub returns-clause-answer : goal.returns-clause-answer
returns-clause-answer c = settled-same c.args.had c.args.now c.args.depth c.args.at c.args.rows.now.items (omega (arith, c.if-had-now.false, c.if-now-had.false))
