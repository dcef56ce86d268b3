use Rattle.std.proofs.Common.{ℕ, cond, sym, ap, ◌∙◌, arith}
use Rattle.xf_tree_changes.proofs.OpenLemmas.{over-more, over-top}
use Rattle.xf_tree_changes.proofs.attach.elements_over.Goals.{then-is_element_at, else-is_element_at}
use Rattle.xf_tree_changes.proofs.attach.elements_over.Goals as goal

pub loop-count-preserved : goal.loop-count-preserved
loop-count-preserved c =
    let s = c.args.slots.now in
    let rows = c.args.rows.now.items in
    let at = c.loop-count.at in
    let i = c.loop-count.invariant in
    let more = over-more s rows at c.in-Some.next i.within c.in-Some.ensures.answer in
    let order = c.in-Some.ensures.within in
    elim c.if-is_element_at.branch [
      | then-is_element_at w ↦
          let one = ap {B = ℕ} (λ b. cond b 1 0) (rw c.at.ensures at (sym c.is_element_at.ensures ∙ w.if-is_element_at.true)) in
          record {
            within = omega (arith, i.within);
            few = omega (arith, i.few, w.count-is);
            so_far = omega (arith, i.so_far, more, one, w.count-is);
          }
      | else-is_element_at w ↦
          let none = ap {B = ℕ} (λ b. cond b 1 0) (rw c.at.ensures at (sym c.is_element_at.ensures ∙ w.if-is_element_at.false)) in
          record {
            within = omega (arith, i.within);
            few = omega (arith, i.few, w.count-is);
            so_far = omega (arith, i.so_far, more, none, w.count-is);
          }
    ]

pub returns-in-None : goal.returns-in-None
returns-in-None c =
    let s = c.args.slots.now in
    let rows = c.args.rows.now.items in
    let i = c.loop-count.invariant in
    let top = over-top s rows c.loop-count.at i.within c.in-None.ensures.answer in
    elim c.if-is_element_at.branch [
      | then-is_element_at w ↦ let one = ap {B = ℕ} (λ b. cond b 1 0) (rw c.at.ensures at (sym c.is_element_at.ensures ∙ w.if-is_element_at.true)) in omega (arith, i.so_far, top, one, w.count-is)
      | else-is_element_at w ↦ let none = ap {B = ℕ} (λ b. cond b 1 0) (rw c.at.ensures at (sym c.is_element_at.ensures ∙ w.if-is_element_at.false)) in omega (arith, i.so_far, top, none, w.count-is)
    ]
