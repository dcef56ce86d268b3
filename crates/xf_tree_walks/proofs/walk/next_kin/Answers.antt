use Rattle.std.proofs.Common.{false, sym, ◌∙◌}
use Rattle.xf_tree_contents.specs.Keys.{same_kind}
use Rattle.xf_tree_walks.proofs.WalkLemmas.{behind, kin-passed}
use Rattle.xf_tree_walks.proofs.walk.next_kin.Goals as goal

pub loop-next-preserved : goal.loop-next-preserved
loop-next-preserved c =
    let i = c.loop-next.invariant in
    let b = behind c.args.slots.now c.args.depth (same_kind false) c.args.rows.now.items c.loop-next.next c.args.end c.end_of-next.result c.loop-next-test.true c.requires.within i.deep c.end_of-next.ensures.answer in
    record {
      same = kin-passed _ _ _ _ _ _ _ b (sym c.is_kin_at.ensures ∙ c.if-not-is_kin_at.true) ∙ i.same;
      deep = b.deep;
    }
