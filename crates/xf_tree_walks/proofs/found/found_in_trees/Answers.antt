use Rattle.std.proofs.Common.{false, sym, ◌∙◌, arith}
use Rattle.xf_tree_contents.specs.Keys.{same_kind}
use Rattle.xf_tree_walks.proofs.WalkLemmas.{behind}
use Rattle.xf_tree_walks.proofs.SoughtLemmas.{trees-passed}
use Rattle.xf_tree_walks.proofs.found.found_in_trees.Goals as goal

pub loop-next-preserved : goal.loop-next-preserved
loop-next-preserved c =
    let i = c.loop-next.invariant in
    let s = c.args.slots.now in
    let rows = c.args.rows.now.items in
    let b = behind s c.args.depth (same_kind false) rows c.loop-next.next c.args.end c.end_of-next.result c.loop-next-test.true c.requires.within i.deep c.end_of-next.ensures.answer in
    record {
      same = trees-passed s rows c.args.sought c.requires.nodes c.args.depth _ _ _ b (omega (arith, c.loop-next-test.true, c.requires.within)) (sym c.is_kin_sought_at.ensures ∙ c.if-not-is_kin_sought_at.true) ∙ i.same;
      deep = b.deep;
    }
