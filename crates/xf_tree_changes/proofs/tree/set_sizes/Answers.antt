use Rattle.std.proofs.Common.{◌≡◌, ◌+◌, ◌-◌, ◌<◌, ◌≤◌, ◌∙◌, length, map, take, drop, set, get_or, refl, sym, ap, subst, arith, length-set}
use Rattle.xf_tree_rows.specs.declared.rows.Row.{Row}
use Rattle.xf_tree_rows.specs.Rows.{Sized, RowList, no_row}
use Rattle.xf_tree_changes.specs.Trees.{unsized}
use Rattle.xf_tree_changes.proofs.PushLemmas.{size-step}
use Rattle.xf_tree_changes.proofs.tree.set_sizes.Goals as goal

pub loop-at-preserved : goal.loop-at-preserved
loop-at-preserved c =
    let rows = c.loop-at.rows.items in
    let old = c.args.rows.now.items in
    let at = c.loop-at.at - 1 in
    let end = c.tree_end-end.result in
    let inv = c.loop-at.invariant in
    let test = c.loop-at-test.true in
    let within = inv.within in
    let h : at < length rows = omega arith in
    let next : at + 1 ≡ c.loop-at.at = omega arith in
    let first : c.args.start ≤ at = omega arith in
    let sized = subst (λ k. Sized (drop k rows)) (sym next) inv.sized in
    let front = subst (λ k. take k rows ≡ take k old) (sym next) inv.front in
    let step = size-step rows old at c.args.start end (get_or rows at no_row) h refl first sized c.tree_end-end.ensures.answer front inv.same in
    let v : Row = record { key = (get_or rows at no_row).key; size = end - at; depth = (get_or rows at no_row).depth } in
    let row : c.sized.result ≡ v = c.sized.ensures ∙ ap (λ (r : Row). record { key = r.key; size = end - at; depth = r.depth }) c.at.ensures in
    let made : c.put.new.self.items ≡ set rows at v = ap (λ (r : RowList). r.items) c.put.ensures ∙ ap (set rows at) row in
    record {
      first = first;
      within = omega (arith, ap length made, length-set rows at v);
      sized = subst (λ l. Sized (drop at l)) (sym made) step.0;
      front = ap (take at) made ∙ step.1;
      same = ap (map unsized) made ∙ step.2;
      room = ap (λ (r : RowList). r.capacity) c.put.ensures ∙ inv.room;
    }
