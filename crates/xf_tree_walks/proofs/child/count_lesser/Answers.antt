use Rattle.std.proofs.Common.{◌≡◌, ℕ, suc, ◌==◌, ◌&&◌, cond, get_or, sym, ap, ◌∙◌, arith, ◌<◌, length}
use Rattle.std.proofs.lemmas.Bool.{and_parts}
use Rattle.slab.specs.Slab.{get}
use Rattle.xf_def_forest.specs.Forest.{is_attribute}
use Rattle.xf_def_forest.specs.Plant.{is_less, written_of}
use Rattle.xf_tree_rows.specs.Rows.{no_row}
use Rattle.xf_tree_contents.specs.Keys.{content_in}
use Rattle.xf_tree_walks.specs.Kids.{is_lesser_attribute}
use Rattle.xf_tree_walks.proofs.AheadLemmas.{lesser-only, like-stop, like-more}
use Rattle.xf_tree_walks.proofs.child.count_lesser.Goals.{then-is_less_at, else-is_less_at}
use Rattle.xf_tree_walks.proofs.child.count_lesser.Goals as goal

pub returns-else-is_attribute_below : goal.returns-else-is_attribute_below
returns-else-is_attribute_below c =
    let s = c.args.slots.now in
    let content = content_in (get s c.args.key) in
    let none = like-stop s (is_lesser_attribute content) (lesser-only content) _ c.loop-next.next c.args.rows.now.items (omega (arith, c.loop-next-test.true, c.len.ensures)) c.requires.first (rw c.at-depth.ensures at (sym c.is_attribute_below.ensures ∙ c.if-is_attribute_below.false)) in
    omega (arith, c.loop-next.invariant.so_far, none)

pub loop-next-preserved : goal.loop-next-preserved
loop-next-preserved c =
    let s = c.args.slots.now in
    let rows = c.args.rows.now.items in
    let next = c.loop-next.next in
    let d = (get_or rows c.args.above no_row).depth in
    let x = get_or rows next no_row in
    let own = content_in (get s x.key) in
    let content = content_in (get s c.args.key) in
    let test_rows : next < length rows = omega (arith, c.loop-next-test.true, c.len.ensures) in
    let is = rw c.at-depth.ensures at (sym c.is_attribute_below.ensures ∙ c.if-is_attribute_below.true) in
    let more = like-more s (is_lesser_attribute content) d next rows test_rows is in
    let test : is_lesser_attribute content own ≡ c.is_less_at.result = ap (λ b. b && is_less (written_of own) (written_of content)) (and_parts (x.depth == suc d) (is_attribute own) is).1 ∙ sym (rw c.at.ensures at c.is_less_at.ensures) in
    let so_far = c.loop-next.invariant.so_far in
    let few = c.loop-next.invariant.few in
    elim c.if-is_less_at.branch [
      | then-is_less_at w ↦
          let one = ap {B = ℕ} (λ b. cond b 1 0) (test ∙ w.if-is_less_at.true) in
          record { last = omega (arith, c.loop-next-test.true); few = omega (arith, w.count-is); so_far = omega (arith, w.count-is, more, one) }
      | else-is_less_at w ↦
          let none = ap {B = ℕ} (λ b. cond b 1 0) (test ∙ w.if-is_less_at.false) in
          record { last = omega (arith, c.loop-next-test.true); few = omega (arith, w.count-is); so_far = omega (arith, w.count-is, more, none) }
    ]
