use Rattle.std.proofs.Common.{◌≡◌, ◌+◌, ◌<◌, ◌≤◌, ◌^◌, length, take, drop, get_or, sym, ap, ◌∙◌, subst, arith}
use Rattle.std.specs.List.{All}
use Rattle.slab.specs.Slab.{get}
use Rattle.xf_tree_rows.specs.declared.rows.Row.{Row}
use Rattle.xf_tree_rows.specs.Rows.{deeper, IsPaste, no_row}
use Rattle.xf_tree_rows.proofs.RootedLemmas.{under-steps, under-index}
use Rattle.xf_tree_contents.specs.Keys.{content_in}
use Rattle.xf_tree_changes.specs.Below.{row_below}
use Rattle.xf_tree_changes.proofs.PlacedLemmas.{mid-fits, mid-place, place-order, place-stops, place-fits, placed-is}
use Rattle.xf_tree_changes.proofs.attach.place_tree.Goals.{After-place_below-to}
use Rattle.xf_tree_changes.proofs.attach.place_tree.Goals as goal

pub overflow_add-depth : goal.overflow_add-depth
overflow_add-depth c =
    let old = c.args.rows.now.items in
    let row = c.at-depth.ensures in
    let most : 0 + length old ≤ 2 ^ 31 = omega (arith, c.requires.few) in
    let u = under-index (2 ^ 31) old c.args.above no_row (under-steps (2 ^ 31) 0 old c.requires.steps most) c.requires.parent in
    omega (arith, ap (λ (r : Row). r.depth) row)

pub place_below-to-requires-clause-fits : goal.place_below-to-requires-clause-fits
place_below-to-requires-clause-fits c =
    mid-fits c.args.slots.now c.args.at c.args.above c.put_behind-from.result.0 c.put_behind-from.result.1 c.args.place c.args.rows.now.items c.put_behind-from.new.rows.items
    c.requires.within c.requires.top c.requires.sized c.requires.steps c.requires.few c.requires.leaves c.put_behind-from.ensures.sized c.put_behind-from.ensures.behind

-- the depth that the tree gets
depth-is : (c : After-place_below-to) → c.at-depth.result.depth + 1 ≡ (get_or c.args.rows.now.items c.args.above no_row).depth + 1
depth-is c = ap (λ (r : Row). r.depth + 1) (c.at-depth.ensures)

-- where it goes
place-is : (c : After-place_below-to) → c.place_below-to.result ≡ row_below c.args.slots.now (take c.put_behind-from.result.0 c.put_behind-from.new.rows.items) c.put_behind-from.result.1
    (content_in (get c.args.slots.now (get_or c.args.rows.now.items c.args.at no_row).key)) c.args.place
place-is c =
    let s = c.args.slots.now in
    let from = c.put_behind-from.result.0 in
    let over = c.put_behind-from.result.1 in
    let row = c.at-top.ensures in
    c.place_below-to.ensures
    ∙ mid-place c.args.slots.now c.args.at c.args.above c.put_behind-from.result.0 c.put_behind-from.result.1 c.args.place c.args.rows.now.items c.put_behind-from.new.rows.items
    c.requires.within c.requires.top c.requires.sized c.requires.steps c.requires.few c.requires.leaves c.put_behind-from.ensures.sized c.put_behind-from.ensures.behind (content_in (get s c.at-top.result.key))
    ∙ ap (λ (r : Row). row_below s (take from c.put_behind-from.new.rows.items) over (content_in (get s r.key)) c.args.place) row

pub paste-requires-clause-order : goal.paste-requires-clause-order
paste-requires-clause-order c =
    let k = (goal.at.paste-requires-clause-order c).After-place_below-to in
    let order = place-order c.args.slots.now c.args.at c.args.above c.put_behind-from.result.0 c.put_behind-from.result.1 c.args.place c.args.rows.now.items c.put_behind-from.new.rows.items
    c.requires.within c.requires.top c.requires.sized c.requires.steps c.requires.few c.requires.leaves c.put_behind-from.ensures.sized c.put_behind-from.ensures.behind in
    subst (λ n. n ≤ c.put_behind-from.result.0) (sym (place-is k)) order

pub paste-requires-clause-place : goal.paste-requires-clause-place
paste-requires-clause-place c =
    let k = (goal.at.paste-requires-clause-place c).After-place_below-to in
    let mid = c.put_behind-from.new.rows.items in
    let stops = place-stops c.args.slots.now c.args.at c.args.above c.put_behind-from.result.0 c.put_behind-from.result.1 c.args.place c.args.rows.now.items mid
    c.requires.within c.requires.top c.requires.sized c.requires.steps c.requires.few c.requires.leaves c.put_behind-from.ensures.sized c.put_behind-from.ensures.behind in
    ap (λ n. deeper n (drop c.place_below-to.result mid)) (depth-is k) ∙ ap (λ n. deeper ((get_or c.args.rows.now.items c.args.above no_row).depth + 1) (drop n mid)) (place-is k) ∙ stops

pub paste-requires-clause-fits : goal.paste-requires-clause-fits
paste-requires-clause-fits c =
    let k = (goal.at.paste-requires-clause-fits c).After-place_below-to in
    let fits = place-fits c.args.slots.now c.args.at c.args.above c.put_behind-from.result.0 c.put_behind-from.result.1 c.args.place c.args.rows.now.items c.put_behind-from.new.rows.items
    c.requires.within c.requires.top c.requires.sized c.requires.steps c.requires.few c.requires.leaves c.put_behind-from.ensures.sized c.put_behind-from.ensures.behind in
    subst (λ n. All (λ (r : Row). r.depth + n < 2 ^ 32) c.put_behind-from.new.rows.items) (sym (depth-is k)) fits

pub returns-clause-answer : goal.returns-clause-answer
returns-clause-answer c =
    let k = (goal.at.returns-clause-answer c).After-place_below-to in
    let from = c.put_behind-from.result.0 in
    let mid = c.put_behind-from.new.rows.items in
    let new = c.paste.new.rows.items in
    let d = (get_or c.args.rows.now.items c.args.above no_row).depth + 1 in
    let one = subst (λ n. IsPaste from c.place_below-to.result n mid new) (depth-is k) c.paste.ensures.answer in
    let two = subst (λ n. IsPaste from n d mid new) (place-is k) one in
    placed-is c.args.slots.now c.args.at c.args.above from c.put_behind-from.result.1 c.args.place c.args.rows.now.items mid
    c.requires.within c.requires.top c.requires.sized c.requires.steps c.requires.few c.requires.leaves c.put_behind-from.ensures.sized c.put_behind-from.ensures.behind new two
