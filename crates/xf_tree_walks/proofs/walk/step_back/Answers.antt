use Rattle.std.proofs.Common.{◌+◌, ◌<◌, length, false, reverse, sym, ap, ◌∙◌, arith}
use Rattle.xf_tree_contents.specs.Keys.{same_kind}
use Rattle.xf_tree_walks.proofs.WalkLemmas.{kin-back_found}
use Rattle.xf_tree_walks.proofs.walk.step_back.Goals as goal

pub returns : goal.returns
returns c =
    let rows = c.args.rows.now.items in
    let next = c.last_kin-next.result in
    let given = c.last_kin-next.ensures in
    let in_rows : next < length rows = omega (arith, given.within, c.requires.ready.1) in
    record {
      within = in_rows;
      ready = (c.if-next-above.false, omega arith, c.requires.ready.2);
      rest = ap reverse (sym given.same) ∙ kin-back_found c.args.slots.now c.args.depth (same_kind false) rows (c.args.above + 1) next (omega (arith, c.if-next-above.false)) in_rows (given.found c.if-next-above.false);
    }
