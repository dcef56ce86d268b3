use Rattle.std.proofs.Common.{◌≡◌, ◌+◌, ◌<◌, length, drop, get_or, sym, ap, subst, arith}
use Rattle.xf_tree_rows.specs.declared.rows.Row.{Row}
use Rattle.xf_tree_rows.specs.Rows.{deeper, no_row}
use Rattle.xf_tree_changes.proofs.PushLemmas.{next-within, end-more}
use Rattle.xf_tree_changes.proofs.tree.tree_end.Goals as goal

pub overflow_add-next-in-loop-next : goal.overflow_add-next-in-loop-next
overflow_add-next-in-loop-next c =
    let inside : c.loop-next.next < length c.args.rows.now.items = omega (arith, c.loop-next-test.true, c.len.ensures) in
    let w = next-within c.args.rows.now.items (c.args.at + 1) c.loop-next.next c.loop-next.invariant.first inside c.requires.sized in
    omega (arith, w.1, ap (λ (r : Row). r.size) c.at-next.ensures, c.is_bounded.ensures)

pub loop-next-smaller : goal.loop-next-smaller
loop-next-smaller c =
    let inside : c.loop-next.next < length c.args.rows.now.items = omega (arith, c.loop-next-test.true, c.len.ensures) in
    let w = next-within c.args.rows.now.items (c.args.at + 1) c.loop-next.next c.loop-next.invariant.first inside c.requires.sized in
    omega (arith, w.0, w.1, ap (λ (r : Row). r.size) c.at-next.ensures)

pub loop-next-preserved : goal.loop-next-preserved
loop-next-preserved c =
    let rows = c.args.rows.now.items in
    let next = c.loop-next.next in
    let top = c.at-top.result.depth in
    let first = c.loop-next.invariant.first in
    let inside : next < length rows = omega (arith, c.loop-next-test.true, c.len.ensures) in
    let w = next-within rows (c.args.at + 1) next first inside c.requires.sized in
    let size = ap (λ (r : Row). r.size) c.at-next.ensures in
    let deep : top < (get_or rows next no_row).depth = subst (λ (r : Row). top < r.depth) c.at.ensures c.if-at-top.true in
    let more = subst (λ n. deeper top (drop next rows) ≡ n + deeper top (drop (next + n) rows)) (sym size) (end-more rows c.args.at next top first inside c.requires.sized deep) in
    record {
      first = omega (arith, w.0, size);
      within = omega (arith, w.1, size);
      so_far = omega (arith, more, c.loop-next.invariant.so_far);
    }
