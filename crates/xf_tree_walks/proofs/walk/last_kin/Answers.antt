use Rattle.std.proofs.Common.{◌≡◌, ℕ, ◌+◌, ◌-◌, ◌<◌, length, false, sym, ◌∙◌, subst, arith}
use Rattle.xf_tree_rows.specs.Rows.{AllDeep}
use Rattle.xf_tree_contents.specs.Keys.{same_kind}
use Rattle.xf_tree_walks.specs.Walks.{between}
use Rattle.xf_tree_walks.proofs.WalkLemmas.{kin-before_deep, kin-back_none}
use Rattle.xf_tree_walks.proofs.walk.last_kin.Goals as goal

pub loop-next-init : goal.loop-next-init
loop-next-init c =
    let rows = c.args.rows.now.items in
    let at = c.args.at in
    let next = c.climb_to-next.result in
    let e : at - 1 + 1 ≡ at = omega (arith, c.requires.order) in
    let deep = subst (λ (n : ℕ). AllDeep (c.args.depth + 1) (between (next + 1) n rows)) e c.climb_to-next.ensures.deep in
    record {
      least = c.climb_to-next.ensures.order;
      within = omega (arith, c.climb_to-next.ensures.within, c.requires.order);
      same = kin-before_deep c.args.slots.now c.args.depth (same_kind false) rows (c.args.above + 1) (next + 1) at (omega (arith, c.climb_to-next.ensures.order)) (omega (arith, c.climb_to-next.ensures.within, c.requires.order)) deep;
    }

pub loop-next-preserved : goal.loop-next-preserved
loop-next-preserved c =
    let rows = c.args.rows.now.items in
    let s = c.args.slots.now in
    let at = c.args.at in
    let old = c.loop-next.next in
    let next = c.climb_to-next-in-loop-next.result in
    let given = c.climb_to-next-in-loop-next.ensures in
    let i = c.loop-next.invariant in
    let e : old - 1 + 1 ≡ old = omega (arith, c.loop-next-test.true) in
    let deep = subst (λ (n : ℕ). AllDeep (c.args.depth + 1) (between (next + 1) n rows)) e given.deep in
    let in_rows : old < length rows = omega (arith, i.within, c.requires.within) in
    record {
      least = given.order;
      within = omega (arith, given.within, i.within);
      same = kin-before_deep s c.args.depth (same_kind false) rows (c.args.above + 1) (next + 1) old (omega (arith, given.order)) (omega (arith, given.within, c.loop-next-test.true)) deep
          ∙ sym (kin-back_none s c.args.depth (same_kind false) rows (c.args.above + 1) old (omega (arith, c.loop-next-test.true)) in_rows (sym c.is_kin_at.ensures ∙ c.if-not-is_kin_at.true))
          ∙ i.same;
    }
