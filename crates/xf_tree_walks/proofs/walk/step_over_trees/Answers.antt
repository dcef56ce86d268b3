use Rattle.std.proofs.Common.{false, sym, ◌∙◌, arith}
use Rattle.xf_tree_contents.specs.Keys.{same_kind}
use Rattle.xf_tree_walks.proofs.WalkLemmas.{behind, kin-found}
use Rattle.xf_tree_walks.proofs.walk.step_over_trees.Goals as goal

pub returns : goal.returns
returns c =
    let given = c.next_kin-next.ensures in
    let b = behind c.args.slots.now c.args.depth (same_kind false) c.args.rows.now.items c.next_kin-next.result c.args.end c.end_of-at.result c.if-next-end.false c.requires.ready.0 given.deep c.end_of-at.ensures.answer in
    record {
      within = omega (arith, c.if-next-end.false, c.requires.ready.0);
      ready = (c.requires.ready.0, b.deep);
      rest = sym given.same ∙ kin-found _ _ _ _ _ _ _ b (given.found c.if-next-end.false);
    }
