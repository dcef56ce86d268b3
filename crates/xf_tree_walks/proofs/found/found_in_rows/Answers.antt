use Rattle.std.proofs.Common.{sym, ◌∙◌, arith}
use Rattle.xf_tree_walks.specs.Walks.{is_plain}
use Rattle.xf_tree_walks.proofs.SoughtLemmas.{rows-passed}
use Rattle.xf_tree_walks.proofs.found.found_in_rows.Goals as goal

pub loop-next-preserved : goal.loop-next-preserved
loop-next-preserved c =
    rows-passed c.args.slots.now c.args.rows.now.items c.args.sought c.requires.nodes is_plain c.loop-next.next c.args.end c.loop-next-test.true c.requires.within (omega (arith, c.loop-next-test.true, c.requires.within))
    (rw c.at.ensures at (sym c.is_plain_sought.ensures ∙ c.if-not-is_plain_sought.true)) ∙ c.loop-next.invariant
