use Rattle.std.proofs.Common.{◌≡◌, ℕ, ◌+◌, ◌<◌, length, map, drop, get_or, refl, sym, ap, ◌∙◌, arith}
use Rattle.xf_tree_rows.specs.Rows.{no_row}
use Rattle.xf_tree_walks.specs.Nodes.{node_of}
use Rattle.xf_tree_walks.proofs.PlaceLemmas.{tree-size}
use Rattle.xf_tree_walks.proofs.AboveLemmas.{inside-deeper}
use Rattle.xf_tree_changes.specs.Below.{child_at}
use Rattle.xf_tree_changes.proofs.BelowLemmas.{child-other, child-more, child-here, child-none, tree-inside}
use Rattle.xf_tree_changes.proofs.attach.child_place.Goals.{then-is_kin_at+else-left-eq0, else-is_kin_at}
use Rattle.xf_tree_changes.proofs.attach.child_place.Goals as goal

pub loop-next-preserved : goal.loop-next-preserved
loop-next-preserved c =
    let s = c.args.slots.now in
    let rows = c.args.rows.now.items in
    let above = c.args.above in
    let next = c.loop-next.next in
    let end = c.end_of-next.result in
    let last = c.end_of-end.result in
    let d = (get_or rows above no_row).depth + 1 in
    let i = c.loop-next.invariant in
    let test = c.loop-next-test.true in
    let whole = c.end_of-end.ensures.answer in
    let in_rows : next < length rows = omega (arith, c.end_of-end.ensures.within) in
    let below : above < next = omega (arith, i.first) in
    let deep = inside-deeper rows above next below in_rows (omega arith) in
    let answer = c.end_of-next.ensures.answer in
    let same : ℕ → ℕ = λ l. end + child_at d l (map (node_of s) (drop end rows)) in
    let size = tree-size next rows in_rows in
    record {
      first = omega (arith, i.first);
      last = omega (arith, tree-inside rows above next below in_rows (omega arith));
      so_far = elim c.if-is_kin_at.branch [
        | then-is_kin_at+else-left-eq0 w ↦ let some : 0 < c.loop-next.left = omega (arith, w.if-left-eq0.false) in ap same w.left-is ∙ child-more s rows d next end in_rows answer c.loop-next.left some (rw c.at-depth.ensures at (sym c.is_kin_at.ensures ∙ w.if-is_kin_at.true)) ∙ i.so_far
        | else-is_kin_at w ↦ ap same w.left-is ∙ child-other s rows d next end in_rows answer c.loop-next.left (omega arith) (rw c.at-depth.ensures at (sym c.is_kin_at.ensures ∙ w.if-is_kin_at.false)) ∙ i.so_far
      ];
    }

pub returns-then-left-eq0 : goal.returns-then-left-eq0
returns-then-left-eq0 c =
    let s = c.args.slots.now in
    let rows = c.args.rows.now.items in
    let next = c.loop-next.next in
    let d = (get_or rows c.args.above no_row).depth + 1 in
    let in_rows : next < length rows = omega (arith, c.end_of-end.ensures.within, c.loop-next-test.true) in
    let none = ap (λ l. child_at d l (map (node_of s) (drop next rows))) c.if-left-eq0.true ∙ child-here s rows d next _ in_rows refl (rw c.at-depth.ensures at (sym c.is_kin_at.ensures ∙ c.if-is_kin_at.true)) in
    omega (arith, c.loop-next.invariant.so_far, none)

pub returns : goal.returns
returns c =
    let s = c.args.slots.now in
    let rows = c.args.rows.now.items in
    let d = (get_or rows c.args.above no_row).depth + 1 in
    let end = c.end_of-end.result in
    let i = c.loop-next.invariant in
    let at_end : c.loop-next.next ≡ end = omega (arith, i.last, c.loop-next-test.false) in
    let none = ap (λ n. child_at d c.loop-next.left (map (node_of s) (drop n rows))) at_end ∙ child-none s rows d c.args.above end c.requires.within c.end_of-end.ensures.answer c.loop-next.left (omega arith) in
    omega (arith, i.so_far, none)
