use Rattle.std.proofs.Common.{◌≡◌, ◌∷◌, ◌∙◌, length, ap, subst, arith}
use Rattle.std.specs.Vec.Iter.{into_iter_items}
use Rattle.xf_tree_changes.proofs.PushLemmas.{Pushed, push-more}
use Rattle.xf_tree_changes.proofs.tree.push_all.Goals as goal

pub loop-depth-preserved : goal.loop-depth-preserved
loop-depth-preserved c =
    let inv = c.loop-depth.invariant in
    let left = into_iter_items c.next.new.self in
    let all = into_iter_items c.into_iter-depth-iterator.result in
    let steps : into_iter_items c.loop-depth.depth-iterator ≡ (c.in-Some.depth, c.in-Some.content) ∷ left = c.in-Some.ensures.steps.0 in
    let short = ap length steps in
    let gone = c.in-Some.ensures.steps.1 in
    let here = subst (Pushed c.args.slots.now c.loop-depth.slots c.args.rows.now.items c.loop-depth.rows.items c.args.first c.loop-depth.number all) steps inv.pushed in
    record {
      pushed = push-more c.args.slots.now c.loop-depth.slots c.push_node-key.new.slots c.args.rows.now.items c.loop-depth.rows.items c.push_node-key.new.rows.items c.args.first c.loop-depth.number
          c.push_node-key.result c.in-Some.depth c.in-Some.content all left here c.push_node-key.ensures.vacant c.push_node-key.ensures.slot c.push_node-key.ensures.row;
      slots = omega (arith, inv.slots, c.push_node-key.ensures.count, c.push_node-key.ensures.slots);
      rows = omega (arith, inv.rows, c.push_node-key.ensures.room, c.push_node-key.ensures.more);
      room = c.push_node-key.ensures.room ∙ inv.room;
      numbers = omega (arith, inv.numbers);
      count = omega (arith, inv.count);
    }
