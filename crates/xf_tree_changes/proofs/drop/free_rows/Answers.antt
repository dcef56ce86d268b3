use Rattle.std.proofs.Common.{ℕ, ◌<◌, length, not, cond, sym, ap, arith}
use Rattle.xf_def_forest.specs.Forest.{is_root}
use Rattle.xf_def_forest.specs.Limits.{size_of}
use Rattle.xf_tree_contents.specs.Keys.{content_in}
use Rattle.xf_tree_contents.proofs.FreeLemmas.{less-more}
use Rattle.xf_tree_changes.proofs.FreeLemmas.{still-there, free-more, nodes-more, sizes-more}
use Rattle.xf_tree_changes.proofs.drop.free_rows.Goals as goal

pub loop-at-preserved : goal.loop-at-preserved
loop-at-preserved c =
    let s = c.args.slots.now in
    let rows = c.args.rows.now in
    let i = c.loop-at.at in
    let x = c.at.result in
    let is = sym c.at.ensures in
    let s1 = c.loop-at.slots in
    let s2 = c.free_node.new.slots in
    let h : i < length rows = omega (arith, c.loop-at-test.true, c.len-at-end.ensures) in
    let inv = c.loop-at.invariant in
    let there = still-there s rows i x h is s1 c.requires inv.rest in
    let n = nodes-more s rows i x h is in
    let z = sizes-more s rows i x h is in
    let one = ap {B = ℕ} (λ o. cond (not (is_root (content_in o))) 1 0) there in
    let bytes = ap (λ o. size_of (content_in o)) there in
    record {
      rest = free-more s rows i x h is s1 s2 inv.rest c.free_node.ensures.gone;
      less = less-more s s1 s2 x.key inv.less c.free_node.ensures.gone;
      total = omega (arith, inv.total, c.free_node.ensures.total, n, one);
      size = omega (arith, inv.size, c.free_node.ensures.size, z, bytes);
    }
