use Rattle.std.proofs.Common.{sym}
use Rattle.xf_actions.proofs.Trees.{earlier-none}
use Rattle.xf_actions.proofs.insert.earlier_copy.Goals as goal

pub returns-in-None-get : goal.returns-in-None-get
returns-in-None-get c = earlier-none c.args.tops.now c.args.place c.in-Some.at c.in-Some.is (sym c.in-None-get.ensures)
