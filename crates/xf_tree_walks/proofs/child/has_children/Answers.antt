use Rattle.std.proofs.Common.{ℕ, ◌≤◌, cond, sym, ap, ◌∙◌, arith}
use Rattle.std.proofs.lemmas.Bool.Decides.{nat_tests}
use Rattle.xf_tree_walks.specs.Kids.{is_no_attribute, kids_at}
use Rattle.xf_tree_walks.proofs.ChildLemmas.{kid-step, kids-so_far}
use Rattle.xf_tree_walks.proofs.child.has_children.Goals.{then-is_child_at, else-is_child_at}
use Rattle.xf_tree_walks.proofs.child.has_children.Goals as goal

pub returns-then-left-eq0 : goal.returns-then-left-eq0
returns-then-left-eq0 c =
    let last = c.loop-next.invariant.last in
    let few = kids-so_far is_no_attribute c.args.slots.now c.args.rows.now.items c.args.above c.loop-next.next c.requires.within c.loop-next.invariant.first (omega (arith, c.end_of-end.ensures.answer)) in
    let so_far = c.loop-next.invariant.so_far in
    let none = c.if-left-eq0.true in
    let most : c.args.least ≤ kids_at is_no_attribute c.args.slots.now c.args.rows.now.items c.args.above = omega arith in
    grind (arith, nat_tests, most)

pub loop-next-preserved : goal.loop-next-preserved
loop-next-preserved c =
    let step = kid-step is_no_attribute c.args.slots.now c.args.rows.now.items c.args.above c.loop-next.next c.end_of-next.result c.end_of-end.result c.requires.within c.loop-next.invariant.first c.loop-next-test.true
    c.end_of-end.ensures.answer c.end_of-next.ensures.answer in
    let count = step.count in
    let so_far = c.loop-next.invariant.so_far in
    let first = c.loop-next.invariant.first in
    record {
      first = omega (arith, c.end_of-next.ensures.answer);
      last = step.inside;
      so_far = elim c.if-is_child_at.branch [
        | then-is_child_at w ↦
            let one = ap {B = ℕ} (λ b. cond b 1 0) (rw c.at-depth.ensures at (sym c.is_child_at.ensures ∙ w.if-is_child_at.true)) in
            omega (arith, count, one)
        | else-is_child_at w ↦
            let none = ap {B = ℕ} (λ b. cond b 1 0) (rw c.at-depth.ensures at (sym c.is_child_at.ensures ∙ w.if-is_child_at.false)) in
            omega (arith, count, none)
      ];
    }
