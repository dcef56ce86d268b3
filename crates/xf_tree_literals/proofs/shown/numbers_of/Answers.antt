use Rattle.xf_tree_literals.proofs.ShownLemmas.{has-inserted}
use Rattle.xf_tree_literals.proofs.shown.numbers_of.Goals as goal

pub loop-at-preserved : goal.loop-at-preserved
loop-at-preserved c =
    has-inserted c.loop-at.numbers.keys c.insert.new.self.keys c.args.nodes.now c.loop-at.at c.at.result.number c.in_ok-insert.ensures.keys c.at.ensures c.loop-at.invariant
