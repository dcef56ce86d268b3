use Rattle.std.proofs.Common.{◌<◌, length, arith}
use Rattle.xf_tree_walks.proofs.AboveLemmas.{above-is}
use Rattle.xf_tree_walks.proofs.WalkLemmas.{climb-on, climb-bounded}
use Rattle.xf_tree_walks.proofs.walk.climb_to.Goals as goal

pub loop-at-preserved : goal.loop-at-preserved
loop-at-preserved c =
    let rows = c.args.rows.now.items in
    let at = c.loop-at.at in
    let place = c.in-Some-parent_row.place in
    let i = c.loop-at.invariant in
    let test = rw c.at.ensures at c.loop-at-test.true in
    let in_rows : at < length rows = omega (arith, i.within, c.requires.within) in
    let a = above-is rows place at in_rows c.in-Some-parent_row.ensures.answer in
    let low = climb-bounded rows c.args.above place at a in_rows i.least (omega (arith, c.requires.less, test)) in
    record {
      least = low;
      within = omega (arith, i.within, a.order);
      deep = climb-on rows c.args.depth place at c.args.from a test i.within c.requires.within i.deep;
    }
