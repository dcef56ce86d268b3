use Rattle.std.proofs.Common.{ℕ, ◌+◌, ◌<◌, ◌≤◌, length, get_or, cond, inl, inr, sym, ap, ◌∙◌, arith}
use Rattle.std.proofs.lemmas.Bool.{cases_lt}
use Rattle.xf_tree_rows.specs.Rows.{no_row}
use Rattle.xf_tree_rows.proofs.CutLemmas.{tree-within}
use Rattle.xf_tree_walks.proofs.PlaceLemmas.{tree-size}
use Rattle.xf_tree_walks.proofs.AboveLemmas.{inside-deeper, kin-skip, above-within}
use Rattle.xf_tree_walks.proofs.lookup.place_of.Goals.{then-is_kin_at, else-is_kin_at}
use Rattle.xf_tree_walks.proofs.lookup.place_of.Goals as goal

pub loop-next-preserved : goal.loop-next-preserved
loop-next-preserved c =
    let s = c.args.slots.now in
    let rows = c.args.rows.now.items in
    let above = c.args.above in
    let at = c.args.at in
    let next = c.loop-next.next in
    let end = c.end_of-next.result in
    let d = (get_or rows at no_row).depth in
    let w = c.is_attribute_at-wanted.result in
    let first = c.loop-next.invariant.first in
    let test = c.loop-next-test.true in
    let inside = c.requires.inside in
    let in_rows : above < length rows = above-within rows above at c.requires.order inside in
    let most = tree-within above rows in_rows in
    let at_rows : at < length rows = omega arith in
    let next_rows : next < length rows = omega arith in
    let below : above < next = omega arith in
    let deep_next = inside-deeper rows above next below next_rows (omega arith) in
    let child = c.requires.child in
    let deep : d ≤ (get_or rows next no_row).depth = omega arith in
    let answer = c.end_of-next.ensures.answer in
    let skip = kin-skip s d w rows (above + 1) next end first next_rows answer deep in
    let size = tree-size next rows next_rows in
    let count = c.loop-next.invariant.count in
    let so_far = c.loop-next.invariant.so_far in
    record {
      first = omega arith;
      last = elim (cases_lt at end) [
        | inl l ↦ absurd (let more = inside-deeper rows next at test at_rows (omega arith) in omega arith)
        | inr l ↦ l
      ];
      count = elim c.if-is_kin_at.branch [ then-is_kin_at w' ↦ omega arith | else-is_kin_at w' ↦ omega arith ];
      so_far = elim c.if-is_kin_at.branch [
        | then-is_kin_at w' ↦
            let one = ap {B = ℕ} (λ b. cond b 1 0) (rw c.at-depth.ensures at (sym c.is_kin_at.ensures ∙ w'.if-is_kin_at.true)) in
            omega (arith, skip, one)
        | else-is_kin_at w' ↦
            let none = ap {B = ℕ} (λ b. cond b 1 0) (rw c.at-depth.ensures at (sym c.is_kin_at.ensures ∙ w'.if-is_kin_at.false)) in
            omega (arith, skip, none)
      ];
    }
