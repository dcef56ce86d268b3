use Rattle.std.proofs.Common.{◌≡◌, ◌+◌, ◌-◌, ◌<◌, ◌≤◌, length, map, take, drop, refl, sym, ap, subst, ◌∙◌, arith, get_or}
use Rattle.std.specs.List.{copy_within}
use Rattle.slab.specs.Slab.{get}
use Rattle.xf_def_forest.specs.Limits.{node_count, all_size}
use Rattle.xf_tree_rows.specs.declared.rows.Row.{Row}
use Rattle.xf_tree_rows.specs.Rows.{no_row}
use Rattle.xf_tree_contents.specs.Keys.{number_in}
use Rattle.xf_tree_walks.specs.Nodes.{node_of, times, KeepsBut}
use Rattle.xf_tree_walks.proofs.PlaceLemmas.{tree-size}
use Rattle.xf_tree_changes.proofs.MoveOlderLemmas.{Moving, moving-start, moving-older, moving-newer, end-within, size-is, slice-apart}
use Rattle.xf_tree_changes.proofs.drop.move_older.Goals.{In-loop-at, After-move_rows}
use Rattle.xf_tree_changes.proofs.drop.move_older.Goals as goal

pub loop-at-init : goal.loop-at-init
loop-at-init c = record { moving = moving-start c.args.slots.now c.args.rows.now.items c.args.number c.args.from c.args.total.now c.args.size.now c.requires.within c.requires.stops c.requires.whole c.requires.front; room = refl }

inside : (c : In-loop-at) → c.loop-at.at < length c.loop-at.rows.items
inside c = omega (arith, c.loop-at-test.true, c.len.ensures)

-- where the tree at this place ends
within-rows : (c : In-loop-at) → c.loop-at.at + (get_or c.loop-at.rows.items c.loop-at.at no_row).size ≤ length c.loop-at.rows.items
within-rows c =
    let e = end-within c.args.slots.now c.loop-at.slots c.args.rows.now.items c.loop-at.rows.items c.args.number c.loop-at.at c.loop-at.to c.args.total.now c.loop-at.total c.args.size.now c.loop-at.size (inside c) c.loop-at.invariant.moving
    c.requires.sized c.requires.whole c.requires.apart in
    omega (arith, c.loop-at.invariant.moving.long)

within-old : (c : In-loop-at) → c.loop-at.at + (get_or c.loop-at.rows.items c.loop-at.at no_row).size ≤ length c.args.rows.now.items
within-old c = end-within c.args.slots.now c.loop-at.slots c.args.rows.now.items c.loop-at.rows.items c.args.number c.loop-at.at c.loop-at.to c.args.total.now c.loop-at.total c.args.size.now c.loop-at.size (inside c) c.loop-at.invariant.moving
    c.requires.sized c.requires.whole c.requires.apart

size-some : (c : In-loop-at) → 0 < (get_or c.loop-at.rows.items c.loop-at.at no_row).size
size-some c =
    let m = c.loop-at.invariant.moving in
    let e = size-is c.args.slots.now c.loop-at.slots c.args.rows.now.items c.loop-at.rows.items c.args.number c.loop-at.at c.loop-at.to c.args.total.now c.loop-at.total c.args.size.now c.loop-at.size (inside c) c.loop-at.invariant.moving
    c.requires.sized c.requires.whole c.requires.apart in
    let h : c.loop-at.at < length c.args.rows.now.items = omega (arith, m.long, inside c) in
    omega (arith, tree-size c.loop-at.at c.args.rows.now.items h)

pub overflow_add-end : goal.overflow_add-end
overflow_add-end c =
    let k = (goal.at.overflow_add-end c).In-loop-at in
    omega (arith, within-old k, ap (λ (r : Row). r.size) c.at.ensures, c.is_bounded.ensures)

pub move_rows-requires-clause-second : goal.move_rows-requires-clause-second
move_rows-requires-clause-second c =
    let k = (goal.at.move_rows-requires-clause-second c).In-loop-at in
    omega (arith, within-rows k, ap (λ (r : Row). r.size) c.at.ensures)

pub overflow_add-to : goal.overflow_add-to
overflow_add-to c =
    let k = (goal.at.overflow_add-to c).In-loop-at in
    omega (arith, within-old k, ap (λ (r : Row). r.size) c.at.ensures, c.loop-at.invariant.moving.order, c.is_bounded.ensures)

pub slice-requires-clause-second : goal.slice-requires-clause-second
slice-requires-clause-second c =
    let k = (goal.at.slice-requires-clause-second c).In-loop-at in
    omega (arith, within-rows k, ap (λ (r : Row). r.size) c.at.ensures)

pub free_rows-requires : goal.free_rows-requires
free_rows-requires c = λ n.
    let k = (goal.at.free_rows-requires c).In-loop-at in
    let size = ap (λ (r : Row). r.size) c.at.ensures in
    let apart = slice-apart c.args.slots.now c.loop-at.slots c.args.rows.now.items c.loop-at.rows.items c.args.number c.loop-at.at c.loop-at.to c.args.total.now c.loop-at.total c.args.size.now c.loop-at.size (inside k) c.loop-at.invariant.moving
    c.requires.sized c.requires.whole c.requires.apart n in
    let went = c.slice.ensures ∙ ap (λ z. take (c.loop-at.at + z - c.loop-at.at) (drop c.loop-at.at c.loop-at.rows.items)) size in
    subst (λ l. times n (map (node_of c.loop-at.slots) l) ≤ 1) (sym went) apart

moved-on : (c : After-move_rows) → c.number_of.result < c.args.number
    → Moving c.args.slots.now c.loop-at.slots c.args.rows.now.items c.move_rows.new.rows.items c.args.number (c.loop-at.at + c.at.result.size) (c.loop-at.to + (c.loop-at.at + c.at.result.size - c.loop-at.at))
    c.args.total.now c.loop-at.total c.args.size.now c.loop-at.size
moved-on c less =
    let at = c.loop-at.at in
    let to = c.loop-at.to in
    let rows = c.loop-at.rows.items in
    let here : at < length rows = omega (arith, c.loop-at-test.true, c.len.ensures) in
    let size = ap (λ (r : Row). r.size) c.at.ensures in
    let number = ap (λ (r : Row). number_in (get c.loop-at.slots r.key)) c.at-in-loop-at.ensures in
    let older : number_in (get c.loop-at.slots (get_or rows at no_row).key) < c.args.number = omega (arith, c.number_of.ensures, less, number) in
    let moved = subst (λ z. c.move_rows.new.rows.items ≡ copy_within rows at (at + z) to) size c.move_rows.ensures.rows in
    let moving = moving-older c.args.slots.now c.loop-at.slots c.args.rows.now.items c.loop-at.rows.items c.args.number c.loop-at.at c.loop-at.to c.args.total.now c.loop-at.total c.args.size.now c.loop-at.size here c.loop-at.invariant.moving
    c.requires.sized c.requires.whole c.requires.apart c.move_rows.new.rows.items older moved in
    subst (λ z. Moving c.args.slots.now c.loop-at.slots c.args.rows.now.items c.move_rows.new.rows.items c.args.number (at + z) (to + (at + z - at)) c.args.total.now c.loop-at.total c.args.size.now c.loop-at.size) (sym size) moving

pub loop-at-smaller-then-number_of-number : goal.loop-at-smaller-then-number_of-number
loop-at-smaller-then-number_of-number c =
    let k = (goal.at.loop-at-smaller-then-number_of-number c).In-loop-at in
    let moving = moved-on (goal.at.loop-at-smaller-then-number_of-number c).After-move_rows c.if-number_of-number.true in
    omega (arith, moving.long, c.loop-at.invariant.moving.long, within-rows k, size-some k, ap (λ (r : Row). r.size) c.at.ensures)

pub loop-at-preserved-then-number_of-number : goal.loop-at-preserved-then-number_of-number
loop-at-preserved-then-number_of-number c = record {
  moving = moved-on (goal.at.loop-at-preserved-then-number_of-number c).After-move_rows c.if-number_of-number.true;
  room = c.move_rows.ensures.room ∙ c.loop-at.invariant.room;
}

pub loop-at-smaller : goal.loop-at-smaller
loop-at-smaller c =
    let k = (goal.at.loop-at-smaller c).In-loop-at in
    omega (arith, within-rows k, size-some k, ap (λ (r : Row). r.size) c.at.ensures)

pub loop-at-preserved : goal.loop-at-preserved
loop-at-preserved c =
    let k = (goal.at.loop-at-preserved c).In-loop-at in
    let at = c.loop-at.at in
    let to = c.loop-at.to in
    let s = c.loop-at.slots in
    let s2 = c.free_rows.new.slots in
    let rows = c.loop-at.rows.items in
    let size = ap (λ (r : Row). r.size) c.at.ensures in
    let went = c.slice.ensures ∙ ap (λ z. take (at + z - at) (drop at rows)) size in
    let number = ap (λ (r : Row). number_in (get s r.key)) c.at-in-loop-at.ensures in
    let newer : c.args.number ≤ number_in (get s (get_or rows at no_row).key) = omega (arith, c.number_of.ensures, c.if-number_of-number.false, number) in
    let moving = moving-newer c.args.slots.now c.loop-at.slots c.args.rows.now.items c.loop-at.rows.items c.args.number c.loop-at.at c.loop-at.to c.args.total.now c.loop-at.total c.args.size.now c.loop-at.size (inside k) c.loop-at.invariant.moving
    c.requires.sized c.requires.whole c.requires.apart s2 c.free_rows.new.total c.free_rows.new.size newer
    (subst (λ l. KeepsBut s s2 (map (node_of s) l)) went c.free_rows.ensures.rest) c.free_rows.ensures.less
    (c.free_rows.ensures.total ∙ ap (λ l. c.loop-at.total - node_count (map (node_of s) l)) went) (c.free_rows.ensures.size ∙ ap (λ l. c.loop-at.size - all_size (map (node_of s) l)) went) in
    record {
      moving = subst (λ z. Moving c.args.slots.now s2 c.args.rows.now.items rows c.args.number (at + z) to c.args.total.now c.free_rows.new.total c.args.size.now c.free_rows.new.size) (sym size) moving;
      room = c.loop-at.invariant.room;
    }
