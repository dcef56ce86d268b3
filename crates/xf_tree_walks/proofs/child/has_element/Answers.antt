use Rattle.std.proofs.Common.{ℕ, ◌+◌, ◌<◌, length, drop, cond, refl, sym, ap, ◌∙◌, arith}
use Rattle.xf_def_forest.specs.Forest.{is_element}
use Rattle.xf_tree_rows.specs.Rows.{tree_of}
use Rattle.xf_tree_rows.proofs.SizedLemmas.{lt-true}
use Rattle.xf_tree_walks.specs.Kids.{kids_at}
use Rattle.xf_tree_walks.proofs.ChildLemmas.{kid-step}
use Rattle.xf_tree_walks.proofs.child.has_element.Goals as goal

pub returns-then-is_element_below : goal.returns-then-is_element_below
returns-then-is_element_below c =
    let s = c.args.slots.now in
    let rows = c.args.rows.now.items in
    let next = c.loop-next.next in
    let step = kid-step is_element s rows c.args.above next (next + length (tree_of (drop next rows))) c.end_of-end.result c.requires.within c.loop-next.invariant.first c.loop-next-test.true
    c.end_of-end.ensures.answer refl in
    let count = step.count in
    let most = step.most in
    let one = ap {B = ℕ} (λ b. cond b 1 0) (rw c.at-depth.ensures at (sym c.is_element_below.ensures ∙ c.if-is_element_below.true)) in
    let some : 0 < kids_at is_element s rows c.args.above = omega (arith, count, one, most) in
    sym (lt-true 0 (kids_at is_element s rows c.args.above) some)

pub loop-next-preserved : goal.loop-next-preserved
loop-next-preserved c =
    let step = kid-step is_element c.args.slots.now c.args.rows.now.items c.args.above c.loop-next.next c.end_of-next.result c.end_of-end.result c.requires.within c.loop-next.invariant.first c.loop-next-test.true
    c.end_of-end.ensures.answer c.end_of-next.ensures.answer in
    let count = step.count in
    let first = c.loop-next.invariant.first in
    let none = ap {B = ℕ} (λ b. cond b 1 0) (rw c.at-depth.ensures at (sym c.is_element_below.ensures ∙ c.if-is_element_below.false)) in
    record {
      first = omega (arith, c.end_of-next.ensures.answer);
      last = step.inside;
      none = omega (arith, count, none, c.loop-next.invariant.none);
    }
