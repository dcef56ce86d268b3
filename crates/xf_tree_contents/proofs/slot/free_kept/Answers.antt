use Rattle.std.proofs.Common.{get_or, refl}
use Rattle.xf_tree_contents.proofs.FreeLemmas.{free-kept_more, less-more}
use Rattle.xf_tree_contents.proofs.slot.free_kept.Goals as goal

pub loop-key-preserved : goal.loop-key-preserved
loop-key-preserved c =
    let s = c.args.slots.now in
    let keys = c.args.keys.now in
    let i = c.loop-key.key-index in
    let x = get_or keys i 0 in
    let s1 = c.loop-key.slots in
    let s2 = c.free_node.new.slots in
    record {
      rest = free-kept_more s keys i x c.loop-key-test.true refl s1 s2 c.loop-key.invariant.rest c.free_node.ensures.gone;
      less = less-more s s1 s2 x c.loop-key.invariant.less c.free_node.ensures.gone;
    }
