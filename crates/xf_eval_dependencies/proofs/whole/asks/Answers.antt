use Rattle.std.proofs.Common.{◌∙◌}
use Rattle.xf_eval.proofs.Lives.{live-is, live-in_order}
use Rattle.xf_eval_dependencies.proofs.Wholes.{looks-are, reads-are}
use Rattle.xf_eval_dependencies.proofs.whole.asks.Goals as goal

pub returns-clause-reads : goal.returns-clause-reads
returns-clause-reads g c = c.in_ok-reads.ensures ∙ reads-are c.args.forest.now.forest c.is_sound.ensures (g.A.Around.given c.args.around.now) c.args.expr.now c.args.context.now c.in_ok-told.told c.in_ok-told.ensures.tells c.in_ok-told.ensures.stands

pub returns-clause-looks : goal.returns-clause-looks
returns-clause-looks g c = c.in_ok-looks.ensures ∙ looks-are c.args.forest.now.forest c.is_sound.ensures (g.A.Around.given c.args.around.now) c.args.expr.now c.args.context.now c.in_ok-told.told c.in_ok-told.ensures.tells

pub returns-clause-reads_live : goal.returns-clause-reads_live
returns-clause-reads_live g c = let nodes = c.args.forest.now.forest.nodes in live-is nodes c.in_ok-reads.ensures (live-in_order c.in_ok-told.told.reads nodes)

pub returns-clause-looks_live : goal.returns-clause-looks_live
returns-clause-looks_live g c = let nodes = c.args.forest.now.forest.nodes in live-is nodes c.in_ok-looks.ensures (live-in_order c.in_ok-told.told.looks nodes)
