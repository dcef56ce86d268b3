use Rattle.std.proofs.Common.{◌≡◌, ◌+◌, ◌-◌, ◌<◌, ◌≤◌, ◌++◌, [], ◌∷◌, length, take, drop, set, get_or, sym, ap, ◌∙◌, arith, append_assoc, length-set, true, false}
use Rattle.std.proofs.lemmas.List.{take_more_set, drop-set-lt}
use Rattle.slab.specs.Slab.{get}
use Rattle.xf_def_forest.specs.Forest.{is_attribute}
use Rattle.xf_tree_rows.specs.declared.rows.Row.{Row}
use Rattle.xf_tree_rows.specs.Rows.{RowList, no_row}
use Rattle.xf_tree_contents.specs.Keys.{content_in}
use Rattle.xf_tree_changes.specs.Texts.{attributes}
use Rattle.xf_tree_changes.proofs.PackLemmas.{still-row, pack-no, pack-yes, drop-next}
use Rattle.xf_tree_changes.proofs.run.pack.Goals as goal

pub loop-at-preserved-then-not-is_attribute_at : goal.loop-at-preserved-then-not-is_attribute_at
loop-at-preserved-then-not-is_attribute_at c =
    let s = c.args.slots.now in
    let old = c.args.rows.now.items in
    let at = c.loop-at.at in
    let inv = c.loop-at.invariant in
    let within : at < length old = omega (arith, c.loop-at-test.true) in
    let order : c.args.from ≤ at = omega (arith, inv.order, inv.within) in
    let same = still-row c.loop-at.rows.items old at no_row within inv.rest in
    let none : is_attribute (content_in (get s (get_or old at no_row).key)) ≡ false = ap (λ (r : Row). is_attribute (content_in (get s r.key))) (sym (c.at-row.ensures ∙ same)) ∙ sym c.is_attribute_at.ensures ∙ c.if-not-is_attribute_at.true in
    record {
      order = inv.order;
      within = omega (arith, inv.within);
      front = inv.front ∙ ap (λ l. take c.args.from old ++ l) (sym (pack-no s old c.args.from at order within none));
      rest = drop-next at c.loop-at.rows.items old inv.rest;
      same = inv.same;
      room = inv.room;
    }

pub loop-at-preserved : goal.loop-at-preserved
loop-at-preserved c =
    let s = c.args.slots.now in
    let old = c.args.rows.now.items in
    let now = c.loop-at.rows.items in
    let at = c.loop-at.at in
    let to = c.loop-at.to in
    let inv = c.loop-at.invariant in
    let within : at < length old = omega (arith, c.loop-at-test.true) in
    let order : c.args.from ≤ at = omega (arith, inv.order, inv.within) in
    let same = still-row now old at no_row within inv.rest in
    let x = get_or old at no_row in
    let is : is_attribute (content_in (get s x.key)) ≡ true = ap (λ (r : Row). is_attribute (content_in (get s r.key))) (sym (c.at-row.ensures ∙ same)) ∙ sym c.is_attribute_at.ensures ∙ c.if-not-is_attribute_at.false in
    let moved : c.put.new.self.items ≡ set now to x = ap (λ (r : RowList). r.items) c.put.ensures ∙ ap (set now to) (c.at-row.ensures ∙ same) in
    let in_now : to < length now = omega (arith, inv.same, inv.within) in
    let below : to < at + 1 = omega (arith, inv.within) in
    record {
      order = omega (arith, inv.order);
      within = omega (arith, inv.within);
      front = ap (take (to + 1)) moved ∙ take_more_set now to x in_now ∙ ap (λ l. l ++ (x ∷ [])) inv.front ∙ append_assoc (take c.args.from old) (attributes s (take (at - c.args.from) (drop c.args.from old))) (x ∷ [])
          ∙ ap (λ l. take c.args.from old ++ l) (sym (pack-yes s old c.args.from at order within is));
      rest = ap (drop (at + 1)) moved ∙ drop-set-lt (at + 1) now to x below ∙ drop-next at now old inv.rest;
      same = ap length moved ∙ length-set now to x ∙ inv.same;
      room = ap (λ (r : RowList). r.capacity) c.put.ensures ∙ inv.room;
    }
