use Rattle.std.proofs.Common.{◌≡◌, ◌+◌, ◌-◌, ◌<◌, ◌≤◌, get_or, set, sym, ap, ◌∙◌, subst}
use Rattle.xf_tree_rows.specs.declared.rows.Row.{Row}
use Rattle.xf_tree_rows.specs.Rows.{RowList, grown, no_row}
use Rattle.xf_tree_rows.proofs.ClimbLemmas.{Climbing, grown-passes, grown-changes, sized-here, climb-past, climb-over}
use Rattle.xf_tree_rows.proofs.moves.grow.Goals as goal

pub above_end-left-requires-clause-sized : goal.above_end-left-requires-clause-sized
above_end-left-requires-clause-sized c =
    sized-here (grown c.args.by) (grown-passes c.args.by) c.args.rows.now.items c.loop-left.rows.items c.args.at c.args.depth c.loop-left.left c.loop-left.below c.loop-left-test.true c.requires.within c.requires.sized c.loop-left.invariant.climbs

pub loop-left-preserved-then-row-below : goal.loop-left-preserved-then-row-below
loop-left-preserved-then-row-below c =
    let rows = c.loop-left.rows.items in
    let here = c.loop-left.left - 1 in
    let y = get_or rows here no_row in
    let is : c.at-row.result ≡ y = c.at-row.ensures in
    let changes = grown-changes c.args.by c.loop-left.below y (subst (λ (r : Row). r.depth < c.loop-left.below) is c.if-row-below.true) in
    let row : c.sized.result ≡ record { key = y.key; size = y.size + c.args.by; depth = y.depth } = c.sized.ensures ∙ ap (λ (r : Row). record { key = r.key; size = r.size + c.args.by; depth = r.depth }) is in
    let new : c.put.new.self.items ≡ set rows here (record { key = y.key; size = y.size + c.args.by; depth = y.depth }) = ap (λ (r : RowList). r.items) c.put.ensures ∙ ap (set rows here) row in
    let climbs = climb-over (grown c.args.by) (grown-passes c.args.by) c.args.rows.now.items rows c.args.at c.args.depth c.loop-left.left c.loop-left.below c.loop-left-test.true c.requires.within c.requires.sized c.loop-left.invariant.climbs
    c.above_end-left.result (y.size + c.args.by) changes c.above_end-left.ensures.answer in
    record {
      climbs = subst (λ d. Climbing (grown c.args.by) c.args.rows.now.items c.put.new.self.items c.args.at c.args.depth c.above_end-left.result d) (ap (λ (r : Row). r.depth) (sym is))
          (subst (λ l. Climbing (grown c.args.by) c.args.rows.now.items l c.args.at c.args.depth c.above_end-left.result y.depth) (sym new) climbs);
      room = ap (λ (r : RowList). r.capacity) c.put.ensures ∙ c.loop-left.invariant.room;
    }

pub loop-left-preserved : goal.loop-left-preserved
loop-left-preserved c = record {
  climbs =
      climb-past (grown c.args.by) (grown-passes c.args.by) c.args.rows.now.items c.loop-left.rows.items c.args.at c.args.depth c.loop-left.left c.loop-left.below c.loop-left-test.true c.requires.within c.requires.sized c.loop-left.invariant.climbs
      c.above_end-left.result (subst (λ (r : Row). c.loop-left.below ≤ r.depth) c.at-row.ensures c.if-row-below.false) c.above_end-left.ensures.answer;
  room = c.loop-left.invariant.room;
}
