use Rattle.std.proofs.Common.{◌≡◌, ◌+◌, map, drop, get_or, ap, ◌∙◌, arith}
use Rattle.xf_tree_rows.specs.Rows.{no_row}
use Rattle.xf_tree_walks.specs.Nodes.{node_of}
use Rattle.xf_tree_changes.specs.Below.{attribute_at}
use Rattle.xf_tree_changes.proofs.BelowLemmas.{attribute-here}
use Rattle.xf_tree_changes.proofs.attach.attribute_place.Goals as goal

pub returns-after-loop-ahead : goal.returns-after-loop-ahead
returns-after-loop-ahead c =
    let s = c.args.slots.now in
    let next = c.loop-ahead.next in
    let rows = c.args.rows.now.items in
    let d = (get_or rows c.args.above no_row).depth + 1 in
    let none : c.loop-ahead.ahead ≡ 0 = omega (arith, c.loop-ahead-test.false) in
    let here = ap (λ k. attribute_at d k (map (node_of s) (drop next rows))) none ∙ attribute-here s d (drop next rows) in
    omega (arith, c.loop-ahead.invariant.so_far, here)
